-- Bytes as opcodes: which have an instruction, and that what is decided on them is what their words decode to.
use mathlib.Core.Path.{◌≡◌, refl, sym, ap, ◌∙◌}
use mathlib.Core.Logic.{◌≢◌}
use mathlib.Core.Bool.{Bool, true, ◌&&◌}
use mathlib.Core.List.{List, [], ◌∷◌, map}
use Prim.Native.Nat.{ℕ, zero, suc, ◌+◌, ◌≤◌, ◌<◌}
use native.Mathlib.Nat.{add-zero, zero-add, le_of_suc-le-suc, not-suc-le-zero}
use native.Mathlib.Omega.{arith}
use borrow.Author.Tests.{leb-true}
use lib.Dec.{leb}
use lib.ListN.{length, get_or}
use denote.Enum.Declared.{tag_of}
use Rattle.algebra.specs.Polynomial.{All}
use Rattle.air.specs.Count.{from}
use Rattle.field_base.proofs.Below.{and-true}
use Rattle.isa_decoding.specs.Decode.{decoded}
use Rattle.isa_decoding.specs.Byte.{ByteKind, none, alone, word, element, words, bytes, kind_at, decided_on}
use Rattle.isa_decoding.specs.declared.Undecodable.TheVariants.{Unknown}
use Rattle.std.specs.Prelude.{Err}
use Rattle.isa_decoding.specs.Theorems.{OpcodesAreBytes, BytesDecide}
use Rattle.isa.specs.contracts.Instruction.{the_type}
use Rattle.isa_decoding.proofs.Theorems.{unknown_opcodes}
use Rattle.isa_decoding.proofs.Tags.{opcodes, tag_opcode}

-- the bytes from a on that have an instruction
abbrev opcodes_from : ℕ → List ByteKind → List ℕ
opcodes_from a [] = []
opcodes_from a (none ∷ ks) = opcodes_from (suc a) ks
opcodes_from a (alone i ∷ ks) = a ∷ opcodes_from (suc a) ks
opcodes_from a (word f ∷ ks) = a ∷ opcodes_from (suc a) ks
opcodes_from a (element f ∷ ks) = a ∷ opcodes_from (suc a) ks
opcodes_from a (words f ∷ ks) = a ∷ opcodes_from (suc a) ks

-- the others have none
unnamed : (ks : List ByteKind) (a t : ℕ) {b : ℕ} → b ≡ a + t → All (λ x. b ≢ x) (opcodes_from a ks) → get_or ks t none ≡ none
unnamed [] a t e h = refl
unnamed (none ∷ ks) a zero e h = refl
unnamed (alone i ∷ ks) a zero e h = absurd (h.0 (e ∙ add-zero a))
unnamed (word f ∷ ks) a zero e h = absurd (h.0 (e ∙ add-zero a))
unnamed (element f ∷ ks) a zero e h = absurd (h.0 (e ∙ add-zero a))
unnamed (words f ∷ ks) a zero e h = absurd (h.0 (e ∙ add-zero a))
unnamed (none ∷ ks) a (suc t) e h = unnamed ks (suc a) t (omega arith) h
unnamed (alone i ∷ ks) a (suc t) e h = unnamed ks (suc a) t (omega arith) h.1
unnamed (word f ∷ ks) a (suc t) e h = unnamed ks (suc a) t (omega arith) h.1
unnamed (element f ∷ ks) a (suc t) e h = unnamed ks (suc a) t (omega arith) h.1
unnamed (words f ∷ ks) a (suc t) e h = unnamed ks (suc a) t (omega arith) h.1

-- what the last arm of a match knows: N, and that the byte is none of the keys
abbrev pub Missed : Type 0 → List ℕ → ℕ → Type 0
Missed N [] w = N
Missed N (k ∷ ks) w = Missed (N × (w ≢ k)) ks w

missed : (N : Type 0) (ks : List ℕ) (w : ℕ) → Missed N ks w → N × All (λ k. w ≢ k) ks
missed N [] w h = (h, tt)
missed N (k ∷ ks) w h =
    let r = missed (N × (w ≢ k)) ks w h in
    (r.0.0, (r.0.1, r.1))

pub no_instruction : (b : ℕ) → Missed Unit (opcodes_from 0 bytes) b → none ≡ kind_at b
unfolding kind_at
no_instruction b h = sym (unnamed bytes 0 b (sym (zero-add b)) (missed Unit (opcodes_from 0 bytes) b h).1)

-- two lists that are the same are so at each place
carried : {A B : Type 0} (f : A → B) (g : ℕ → B) (d : A) (l : List A) (a t : ℕ) → map f l ≡ map g (from a (length l)) → t < length l → f (get_or l t d) ≡ g (a + t)
carried f g d [] a t e h = absurd (not-suc-le-zero h)
carried f g d (x ∷ l) a zero e h = let z : f x ≡ g a = cc in z ∙ ap g (sym (add-zero a))
carried f g d (x ∷ l) a (suc t) e h =
    let z : suc a + t ≡ a + suc t = omega arith in
    carried f g d l (suc a) t (cc) (le_of_suc-le-suc h) ∙ ap g z

-- one comparison, computed for all arguments at once: n stays open
same : (n : ℕ) → map (λ (k : ByteKind). decided_on k n) bytes ≡ map (λ (b : ℕ). decoded b n) (from 0 (length bytes))
unfolding decoded
same n = refl

pub bytes_decide : BytesDecide
unfolding kind_at
bytes_decide b n l =
    rw (zero-add b) at (carried (λ (k : ByteKind). decided_on k n) (λ (x : ℕ). decoded x n) none bytes 0 b (same n) (omega arith))

-- the opcodes' own limit, by one computed test
abbrev within : ℕ → List ℕ → Bool
within m [] = true
within m (x ∷ l) = leb x m && within m l

within_at : (m : ℕ) (l : List ℕ) (t : ℕ) → within m l ≡ true → get_or l t 0 ≤ m
within_at m [] t h = omega arith
within_at m (x ∷ l) zero h = leb-true x m (and-true (leb x m) (within m l) h).0
within_at m (x ∷ l) (suc t) h = within_at m l t (and-true (leb x m) (within m l) h).1

pub opcodes_are_bytes : OpcodesAreBytes
opcodes_are_bytes i = rw (← tag_opcode i) (within_at 88 opcodes (tag_of the_type i) refl)

-- what `instruction_from` stands on: a byte up to 88, and a word above it
pub decoded_byte : (b n : ℕ) → b ≤ 88 → decoded b n ≡ decided_on (kind_at b) n
decoded_byte b n l = sym (bytes_decide b n l)

pub decoded_above : (ci nia : ℕ) → 88 < ci → decoded ci nia ≡ Err Unknown
decoded_above ci nia l = (unknown_opcodes ci nia).1 (λ i e. let m = opcodes_are_bytes i in omega arith)

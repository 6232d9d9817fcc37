-- Sections one after the other: proper commands in order, and what they count and bring together.
use mathlib.Core.Path.{◌≡◌, refl, sym, ◌∙◌}
use mathlib.Core.Bool.{true, cond}
use mathlib.Core.List.{List, [], ◌∷◌, ◌++◌, append_assoc}
use Prim.Native.Nat.{ℕ, zero, suc, ◌+◌, ◌*◌, ◌/◌, ◌<◌}
use native.Mathlib.Omega.{arith}
use lib.Dec.{eqb}
use lib.ListN.{take, drop}
use Rattle.field_base.specs.Words.{all_below}
use Rattle.field_base.proofs.Below.{below_take}
use Rattle.batch_words.specs.Words.{number, bytes_of}
use Rattle.batch_commands.specs.Format.{END, COMMANDS, width, key_width, key, rank, Command}
use Rattle.batch_reader.specs.Commands.{count, contents}
use Rattle.batch_reader.proofs.Commands.{count-append, contents_append}
use Rattle.batch_reader.proofs.Ordered.{OrderedFrom, Every, every_append, ordered_since}
use Rattle.batch_reader.proofs.LaidOut.{end}
use Rattle.batch_writer.specs.Layout.{commands_with}
use Rattle.terms_batches.proofs.Differences.{word_is}
use Rattle.terms_batches.proofs.Sections.{Section, joined}
use Rattle.terms_batches.proofs.Sorted.{Ascending}
use Rattle.terms_batches.proofs.Sound.{Proper}
use Rattle.terms_batches.proofs.Filled.{Filled, filled_rest, words_of, each_with, count-with, contents_with}

-- whatever follows in order, the section and it are in order
abbrev Chained : ℕ → ℕ → ℕ → List ℕ → Type 0
Chained m n code ws = (js : List Command) → ((a : ℕ) → OrderedFrom (rank code) a js) → OrderedFrom (rank code) m (commands_with n code ws ++ js)

-- commands without a key
no_key : (code : ℕ) (operand : List ℕ) → key_width code ≡ 0 → key code operand ≡ 0
unfolding key number
no_key code operand e = rw e

pub unkeyed : (n code : ℕ) (ws : List ℕ) → key_width code ≡ 0 → Chained 0 n code ws
unfolding commands_with
unkeyed zero code ws e js h = h 0
unkeyed (suc n) code ws e js h = ((omega arith, λ q. omega arith), rw (no_key code (bytes_of (take (width code / 8) ws)) e) (unkeyed n code (drop (width code / 8) ws) e js h))

-- differences
first_key : (code x : ℕ) → width code ≡ 8 → key_width code ≡ 8 → all_below (x ∷ []) ≡ true → key code (bytes_of (x ∷ [])) ≡ x
first_key code x wide e b =
    let one : 1 ≡ width code / 8 = rw wide in
    let both : key code (bytes_of (x ∷ [])) ∷ [] ≡ x ∷ [] = sym (word_is code wide e (bytes_of (x ∷ []))) ∙ words_of code (x ∷ []) one b in
    cc

pub keyed : (m n code : ℕ) (ws : List ℕ) → width code ≡ 8 → key_width code ≡ 8 → Filled n code ws → Ascending m ws → Chained m n code ws
unfolding commands_with
keyed m zero code ws wide e f a js h = h m
keyed m (suc n) code [] wide e f a js h =
    let none : suc n * 1 ≡ 0 = rw wide at f.exact in
    absurd (omega arith)
keyed m (suc n) code (x ∷ xs) wide e f a js h =
    let one : width code / 8 ≡ 1 = rw wide in
    let k = first_key code x wide e (below_take 1 (x ∷ xs) f.below) in
    let rest : Filled n code xs = rw one at (filled_rest code n (x ∷ xs) f) in
    rw (one, k) ((omega arith, λ q. a.0), keyed x n code xs wide e rest a.1 js h)

pub record Fits (s : Section) : Type 0 where
  pub known : s.code < COMMANDS
  pub more : s.code ≡ END → ⊥
  pub even : 8 * (width s.code / 8) ≡ width s.code
  pub filled : Filled s.n s.code s.ws
  pub chained : Chained 0 s.n s.code s.ws

pub each_joined : (ss : List Section) → Every Fits ss → Every Proper (joined ss)
each_joined [] h = tt
each_joined (s ∷ ss) h =
    let f = h.0 in
    every_append Proper (commands_with s.n s.code s.ws) (joined ss) (each_with s.code f.known f.more f.even s.n s.ws f.filled) (each_joined ss h.1)

-- how many of a kind, and what they bring
abbrev pub counted : ℕ → List Section → ℕ
counted wanted [] = 0
counted wanted (s ∷ ss) = cond (eqb s.code wanted) s.n 0 + counted wanted ss

pub count-joined : (wanted : ℕ) (ss : List Section) → count wanted (joined ss) ≡ counted wanted ss
unfolding count
count-joined wanted [] = refl
count-joined wanted (s ∷ ss) = count-append wanted (commands_with s.n s.code s.ws) (joined ss) ∙ rw (count-with s.code wanted s.n s.ws, count-joined wanted ss)

abbrev pub held : ℕ → List Section → List ℕ
held wanted [] = []
held wanted (s ∷ ss) = cond (eqb s.code wanted) s.ws [] ++ held wanted ss

pub contents_joined : (wanted : ℕ) (ss : List Section) → Every Fits ss → contents wanted (joined ss) ≡ held wanted ss
unfolding contents
contents_joined wanted [] h = refl
contents_joined wanted (s ∷ ss) h =
    contents_append wanted (commands_with s.n s.code s.ws) (joined ss) ∙ rw (contents_with s.code wanted s.n s.ws h.0.filled, contents_joined wanted ss h.1)

-- each behind the last, and 00 behind all
abbrev pub Rising : ℕ → List Section → Type 0
Rising r [] = r < rank END
Rising r (s ∷ ss) = (r < rank s.code) × Rising (rank s.code) ss

pub ordered_joined : (r m : ℕ) (ss : List Section) → Rising r ss → Every Fits ss → OrderedFrom r m (joined ss ++ (end ∷ []))
ordered_joined r m [] up h = ((omega arith, λ e. absurd (omega arith)), tt)
ordered_joined r m (s ∷ ss) up h =
    rw append_assoc
    (ordered_since r m (rank s.code) 0 (commands_with s.n s.code s.ws ++ (joined ss ++ (end ∷ []))) (omega arith, λ e. omega arith)
    (h.0.chained (joined ss ++ (end ∷ [])) (λ a. ordered_joined (rank s.code) a ss up.1 h.1)))

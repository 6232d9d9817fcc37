-- Many tests joined by `&&`.
use mathlib.Core.Path.{◌≡◌}
use mathlib.Core.Bool.{Bool, true, ◌&&◌}
use mathlib.Core.List.{List, [], ◌∷◌}
use Rattle.std.proofs.lemmas.Bool.{and_parts}
use Rattle.batch_reader.proofs.Ordered.{Every}

abbrev pub and_all : Bool → List Bool → Bool
and_all b [] = b
and_all b (c ∷ cs) = and_all (b && c) cs

pub all_true : (b : Bool) (cs : List Bool) → and_all b cs ≡ true → (b ≡ true) × Every (λ c. c ≡ true) cs
all_true b [] e = (e, tt)
all_true b (c ∷ cs) e =
    let rest = all_true (b && c) cs e in
    let two = and_parts b c rest.0 in
    (two.0, (two.1, rest.1))

pub true_all : (b : Bool) (cs : List Bool) → b ≡ true → Every (λ c. c ≡ true) cs → and_all b cs ≡ true
true_all b [] e h = e
true_all b (c ∷ cs) e h = true_all (b && c) cs (rw (e, h.0)) h.1

-- Commands laid out one after the other.
use mathlib.Core.Path.{◌≡◌, refl}
use mathlib.Core.List.{List, [], ◌∷◌, ◌++◌, append_assoc}
use Rattle.batch_commands.specs.Format.{Command, laid_out}

pub laid_append : (ks js : List Command) → laid_out (ks ++ js) ≡ laid_out ks ++ laid_out js
unfolding laid_out
laid_append [] js = refl
laid_append (k ∷ ks) js = rw (laid_append ks js, append_assoc)

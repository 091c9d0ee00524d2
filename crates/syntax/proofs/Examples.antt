-- Small texts, by computation.
use Rattle.std.proofs.Common.{refl}
use Rattle.syntax.specs.Signs.{lex}
use Rattle.syntax.specs.Parse.{type, term}
use Rattle.syntax.specs.Worked.{Worked}

pub worked : Worked
unfolding lex type term
worked = record { largest = refl; applied = refl; wrong_sign = refl; too_large = refl; no_binder = refl; bound_twice = refl; used_twice = refl; not_used = refl; second_inside = refl }

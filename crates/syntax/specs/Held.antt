-- The names that memory holds. Assumes nothing.
use Rattle.std.specs.Prelude.{ℕ, List, map, vec_items}
use Rattle.arrayvec.specs.ArrayVec.{ArrayVec}
use Rattle.syntax.specs.declared.scope.InForce.{InForce as HeldForce}
use Rattle.syntax.specs.declared.scope.Scope.{Scope as HeldScope}
use Rattle.syntax.specs.Trees.{Name, Binder}
use Rattle.syntax.specs.Scopes.{InForce, Names}

-- the letters of a name
abbrev pub spelled : ArrayVec ℕ → Name
spelled x = x.items

abbrev pub name_in_force : HeldForce → InForce
name_in_force x = record { binder = record { place = x.place; name = spelled x.name }; used = x.used }

abbrev pub names_of : HeldScope → Names
names_of s = record { bound = map spelled (vec_items s.bound); force = map name_in_force (vec_items s.in_force); least = s.least }

-- the binders in force
abbrev pub binders_of : List InForce → List Binder
binders_of xs = map (λ x. x.binder) xs

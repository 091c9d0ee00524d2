-- Names in force while a text is read, and the first of the faults met so far. Assumes nothing.
use Rattle.std.specs.Prelude.{ℕ, suc, Bool, true, false, cond, List, [], ◌∷◌, ◌++◌, length, take, drop, Some, None, Option, slice_index_or, slice_set}
use Rattle.std.specs.Str.{bytes_eq}
use Rattle.syntax.specs.declared.refusal.Fault.TheVariants.{Unbound, BoundTwice, UsedTwice, Unused}
use Rattle.syntax.specs.declared.refusal.Refusal.{Refusal}
use Rattle.syntax.specs.Trees.{Name, Binder, Tree, occ, num, succ, lam, app, pair, split, iter}
use Rattle.syntax.specs.Names.{among, fault, sooner}

-- a name in force, and whether it was used
pub record InForce : Type 0 where
  pub binder : Binder
  pub used : Bool

-- the names bound so far, those in force from the outermost, and the first fault so far
pub record Names : Type 0 where
  pub bound : List Name
  pub force : List InForce
  pub least : Option Refusal

abbrev pub no_names : Names
no_names = record { bound = []; force = []; least = None }

abbrev pub note : Refusal → Names → Names
note f s = record { bound = s.bound; force = s.force; least = sooner f s.least }

-- a binder is met in the text
abbrev pub declare : Binder → Names → Names
declare x s = record { bound = s.bound ++ (x.name ∷ []); force = s.force; least = cond (among x.name s.bound) (sooner (fault BoundTwice x.place) s.least) s.least }

-- it comes into force
abbrev pub enter : Binder → Names → Names
enter x s = record { bound = s.bound; force = s.force ++ (record { binder = x; used = false } ∷ []); least = s.least }

-- the first fault, once those of names that go out of force unused are met
abbrev pub unused : List InForce → Option Refusal → Option Refusal
unused [] f = f
unused (x ∷ xs) f = unused xs (cond x.used f (sooner (fault Unused x.binder.place) f))

-- all but the first h names are asked whether they were used
abbrev pub settle : ℕ → Names → Names
settle h s = record { bound = s.bound; force = s.force; least = unused (drop h s.force) s.least }

-- all but the first h names go out of force
abbrev pub shut : ℕ → Names → Names
shut h s = record { bound = s.bound; force = take h s.force; least = s.least }

abbrev pub leave : ℕ → Names → Names
leave h s = shut h (settle h s)

-- the number of the innermost name w in force
abbrev pub found : Name → List InForce → Option ℕ
found w [] = None
found w (x ∷ xs) = elim (found w xs) [ Some i ↦ Some (suc i) | None ↦ cond (bytes_eq w x.binder.name) (Some 0) None ]

-- what stands where there is none
abbrev pub nobody : InForce
nobody = record { binder = record { place = 0; name = [] }; used = false }

-- the name number i is used at p
abbrev pub use_at : ℕ → ℕ → Names → Names
use_at p i s = cond (slice_index_or s.force i nobody).used (note (fault UsedTwice p) s)
    (record { bound = s.bound; force = slice_set s.force i (record { binder = (slice_index_or s.force i nobody).binder; used = true }); least = s.least })

-- the name w occurs at p
abbrev pub occur : ℕ → Name → Names → Names
occur p w s = elim (found w s.force) [ Some i ↦ use_at p i s | None ↦ note (fault Unbound p) s ]

-- the names after a term is read
unfoldable pub visit : Tree Name → Names → Names
visit (occ p w) s = occur p w s
visit (num p n) s = s
visit (succ p t) s = visit t s
visit (lam p x T t) s = leave (length s.force) (visit t (enter x (declare x s)))
visit (app p t u) s = visit u (visit t s)
visit (pair p t u) s = visit u (visit t s)
visit (split p x y t u) s = leave (length s.force) (visit u (enter y (enter x (visit t (declare y (declare x s))))))
visit (iter p t u v) s = visit v (visit u (visit t s))

-- Names: which binder has which occurrences, and the faults of names. Assumes nothing.
use Rattle.std.specs.Prelude.{ℕ, Bool, false, cond, ◌&&◌, ◌||◌, List, [], ◌∷◌, ◌++◌, map, Some, None, Option, ◌==◌, nat_lt, codes, decimal}
use Rattle.std.specs.Str.{bytes_eq}
use Rattle.syntax.specs.declared.refusal.Fault.{Fault}
use Rattle.syntax.specs.declared.refusal.Fault.TheVariants.{TooLong, WrongSign, LargeNumber, PassedLimit, Unbound, BoundTwice, UsedTwice, Unused, IllTyped, NoNumber, HighType, FewCells, ManyIterators}
use Rattle.syntax.specs.declared.refusal.Refusal.{Refusal}
use Rattle.syntax.specs.Trees.{Name, Binder, Tree, occ, num, succ, lam, app, pair, split, iter}

-- the place of the innermost binder of the name w, or p where none is in force; the binders in force are listed from the outermost
abbrev pub binder_of : Name → List Binder → ℕ → ℕ
binder_of w [] p = p
binder_of w (x ∷ σ) p = binder_of w σ (cond (bytes_eq w x.name) x.place p)

-- each occurrence becomes its binder's place
abbrev pub resolve : List Binder → Tree Name → Tree ℕ
resolve σ (occ p w) = occ p (binder_of w σ p)
resolve σ (num p n) = num p n
resolve σ (succ p t) = succ p (resolve σ t)
resolve σ (lam p x T t) = lam p x T (resolve (σ ++ (x ∷ [])) t)
resolve σ (app p t u) = app p (resolve σ t) (resolve σ u)
resolve σ (pair p t u) = pair p (resolve σ t) (resolve σ u)
resolve σ (split p x y t u) = split p x y (resolve σ t) (resolve (σ ++ (x ∷ y ∷ [])) u)
resolve σ (iter p t u v) = iter p (resolve σ t) (resolve σ u) (resolve σ v)

-- is w among these names?
abbrev pub among : Name → List Name → Bool
among w [] = false
among w (x ∷ xs) = bytes_eq w x || among w xs

abbrev pub fault : Fault → ℕ → Refusal
fault f p = record { fault = f; place = p }

-- the occurrences that no name in force has
abbrev pub unbound : List Name → Tree Name → List Refusal
unbound σ (occ p w) = cond (among w σ) [] (fault Unbound p ∷ [])
unbound σ (num p n) = []
unbound σ (succ p t) = unbound σ t
unbound σ (lam p x T t) = unbound (x.name ∷ σ) t
unbound σ (app p t u) = unbound σ t ++ unbound σ u
unbound σ (pair p t u) = unbound σ t ++ unbound σ u
unbound σ (split p x y t u) = unbound σ t ++ unbound (x.name ∷ y.name ∷ σ) u
unbound σ (iter p t u v) = unbound σ t ++ (unbound σ u ++ unbound σ v)

-- the binders, in the order of the text
abbrev pub binders : Tree Name → List Binder
binders (occ p w) = []
binders (num p n) = []
binders (succ p t) = binders t
binders (lam p x T t) = x ∷ binders t
binders (app p t u) = binders t ++ binders u
binders (pair p t u) = binders t ++ binders u
binders (split p x y t u) = x ∷ y ∷ (binders t ++ binders u)
binders (iter p t u v) = binders t ++ (binders u ++ binders v)

-- the binders whose name was bound before: by one of these names, or earlier in the list
abbrev pub bound_twice : List Name → List Binder → List Refusal
bound_twice before [] = []
bound_twice before (x ∷ xs) = cond (among x.name before) (fault BoundTwice x.place ∷ bound_twice (x.name ∷ before) xs) (bound_twice (x.name ∷ before) xs)

-- the places in a term at which the name w occurs free, in the order of the text
abbrev pub occurrences : Name → Tree Name → List ℕ
occurrences w (occ p v) = cond (bytes_eq w v) (p ∷ []) []
occurrences w (num p n) = []
occurrences w (succ p t) = occurrences w t
occurrences w (lam p x T t) = cond (bytes_eq w x.name) [] (occurrences w t)
occurrences w (app p t u) = occurrences w t ++ occurrences w u
occurrences w (pair p t u) = occurrences w t ++ occurrences w u
occurrences w (split p x y t u) = occurrences w t ++ cond (bytes_eq w x.name || bytes_eq w y.name) [] (occurrences w u)
occurrences w (iter p t u v) = occurrences w t ++ (occurrences w u ++ occurrences w v)

-- a binder with these occurrences: none is a fault, and each after the first
abbrev pub used_once : Binder → List ℕ → List Refusal
used_once x [] = fault Unused x.place ∷ []
used_once x (p ∷ ps) = map (fault UsedTwice) ps

-- the binders that are not used exactly once; the second name of a let stands inside the first
abbrev pub misused : Tree Name → List Refusal
misused (occ p w) = []
misused (num p n) = []
misused (succ p t) = misused t
misused (lam p x T t) = used_once x (occurrences x.name t) ++ misused t
misused (app p t u) = misused t ++ misused u
misused (pair p t u) = misused t ++ misused u
misused (split p x y t u) = used_once x (cond (bytes_eq x.name y.name) [] (occurrences x.name u)) ++ (used_once y (occurrences y.name u) ++ (misused t ++ misused u))
misused (iter p t u v) = misused t ++ (misused u ++ misused v)

-- all faults of names
abbrev pub name_faults : Tree Name → List Refusal
name_faults t = unbound [] t ++ (bound_twice [] (binders t) ++ misused t)

-- the number of a fault
abbrev pub number : Fault → ℕ
number TooLong = 1
number WrongSign = 2
number LargeNumber = 3
number PassedLimit = 4
number Unbound = 5
number BoundTwice = 6
number UsedTwice = 7
number Unused = 8
number IllTyped = 9
number NoNumber = 10
number HighType = 11
number FewCells = 12
number ManyIterators = 13

-- how a refusal is told
abbrev pub refusal_text : Refusal → List ℕ
refusal_text f = codes "refused=" ++ (decimal (number f.fault) ++ (codes " place=" ++ decimal f.place))

-- does f go before g: by its place, then by its number?
abbrev pub before : Refusal → Refusal → Bool
before f g = nat_lt f.place g.place || (f.place == g.place && nat_lt (number f.fault) (number g.fault))

-- the one that goes first, of f and perhaps another
abbrev pub sooner : Refusal → Option Refusal → Option Refusal
sooner f None = Some f
sooner f (Some g) = Some (cond (before f g) f g)

abbrev pub least : List Refusal → Option Refusal
least [] = None
least (f ∷ fs) = sooner f (least fs)

abbrev pub name_fault : Tree Name → Option Refusal
name_fault t = least (name_faults t)

-- What the methods on names do, step by step.
use Rattle.std.proofs.Common.{◌≡◌, ℕ, zero, suc, ◌+◌, ◌<◌, Bool, true, false, not, cond, ◌||◌, List, [], ◌∷◌, map, length, get_or, set, Some, None, Option, sym, refl, ap, ◌∙◌, arith, All}
use Rattle.std.specs.Str.{bytes_eq}
use Rattle.std.specs.List.{AllWithin, HoldsAt, list_any, filter, fold}
use Rattle.std.proofs.lemmas.List.{get_or-map}
use lib.Seq.{map-set}
use Rattle.std.proofs.lemmas.List.Elements.{All-head, All-tail}
use Rattle.arrayvec.specs.ArrayVec.{ArrayVec}
use Rattle.syntax.specs.declared.scope.InForce.{InForce as HeldForce}
use Rattle.syntax.specs.declared.refusal.Fault.TheVariants.{Unused, UsedTwice}
use Rattle.syntax.specs.declared.refusal.Refusal.{Refusal}
use Rattle.syntax.specs.Trees.{Name}
use Rattle.syntax.specs.Names.{among, fault, sooner, binder_of}
use Rattle.syntax.specs.Scopes.{found, unused, nobody, use_at, occur}
use Rattle.syntax.specs.Held.{spelled, name_in_force, binders_of}

-- the search over the names bound so far
pub among_any : (w : Name) (xs : List (ArrayVec ℕ)) → list_any (λ x. bytes_eq w (spelled x)) xs ≡ among w (map spelled xs)
among_any w [] = refl
among_any w (x ∷ xs) = ap (λ r. bytes_eq w (spelled x) || r) (among_any w xs)

-- the names in force, where none is spelled so
module _ (w : Name) where
  abbrev pub Other : HeldForce → Type 0
  Other x = bytes_eq w (spelled x.name) ≡ false

  pub found_none : (xs : List HeldForce) → All Other xs → found w (map name_in_force xs) ≡ None
  found_none [] none = refl
  found_none (x ∷ xs) none = rw (found_none xs (All-tail Other x xs none), All-head Other x xs none) refl

  pub binder_none : (xs : List HeldForce) (p : ℕ) → All Other xs → binder_of w (binders_of (map name_in_force xs)) p ≡ p
  binder_none [] p none = refl
  binder_none (x ∷ xs) p none = rw (All-head Other x xs none, binder_of) (binder_none xs p (All-tail Other x xs none))

  -- where the last that is spelled so is number i
  abbrev pub IsLast : List HeldForce → ℕ → Type 0
  IsLast xs i = (i < length xs) × HoldsAt (λ x. bytes_eq w (spelled x.name) ≡ true) xs i × AllWithin Other xs (i + 1) (length xs)

  later : (x : HeldForce) (xs : List HeldForce) → IsLast (x ∷ xs) 0 → All Other xs
  later x xs h k d g = h.2 (suc k) d (omega arith) (omega (arith, g))

  next : (x : HeldForce) (xs : List HeldForce) (i : ℕ) → IsLast (x ∷ xs) (suc i) → IsLast xs i
  next x xs i h = (omega (arith, h.0), h.1, λ k d f g. h.2 (suc k) d (omega (arith, f)) (omega (arith, g)))

  pub found_last : (xs : List HeldForce) (i : ℕ) → IsLast xs i → found w (map name_in_force xs) ≡ Some i
  found_last [] i h = absurd (omega (arith, h.0))
  found_last (x ∷ xs) zero h = rw (found_none xs (later x xs h), h.1 x) refl
  found_last (x ∷ xs) (suc i) h = rw (found_last xs i (next x xs i h)) refl

  pub binder_last : (xs : List HeldForce) (i p : ℕ) (d : HeldForce) → IsLast xs i → binder_of w (binders_of (map name_in_force xs)) p ≡ (get_or xs i d).place
  binder_last [] i p d h = absurd (omega (arith, h.0))
  binder_last (x ∷ xs) zero p d h = rw (h.1 x, binder_of) (binder_none xs x.place (later x xs h))
  binder_last (x ∷ xs) (suc i) p d h = binder_last xs i (cond (bytes_eq w (spelled x.name)) x.place p) d (next x xs i h)

-- a name occurs, which is number i of those in force
pub occur_at : (p : ℕ) (w : Name) (bound : List Name) (xs : List HeldForce) (f : Option Refusal) (i : ℕ) (x : HeldForce) → IsLast w xs i → x ≡ get_or xs i x → occur p w (record { bound = bound; force = map name_in_force xs; least = f }) ≡ cond x.used (record { bound = bound; force = map name_in_force xs; least = sooner (fault UsedTwice p) f }) (record { bound = bound; force = map name_in_force (set xs i (record { place = x.place; name = x.name; used = true })); least = f })
occur_at p w bound xs f i x h e =
    let at : get_or (map name_in_force xs) i nobody ≡ name_in_force x = get_or-map name_in_force xs i x nobody h.0 ∙ ap name_in_force (sym e) in
    rw (found_last w xs i h, occur, use_at, at, map-set name_in_force xs i (record { place = x.place; name = x.name; used = true })) refl

-- the names that go out of force
pub unused_fold : (xs : List HeldForce) (f : Option Refusal) → fold (λ g x. sooner (fault Unused x.place) g) f (filter (λ x. not x.used) xs) ≡ unused (map name_in_force xs) f
unused_fold [] f = refl
unused_fold (x ∷ xs) f = go x.used refl (unused_fold xs)
  where
    go : (v : Bool) → x.used ≡ v → ((g : Option Refusal) → fold (λ g y. sooner (fault Unused y.place) g) g (filter (λ y. not y.used) xs) ≡ unused (map name_in_force xs) g) → fold (λ g y. sooner (fault Unused y.place) g) f (filter (λ y. not y.used) (x ∷ xs)) ≡ unused (map name_in_force xs) (cond x.used f (sooner (fault Unused x.place) f))
    go true e ih = rw e (ih f)
    go false e ih = rw e (ih (sooner (fault Unused x.place) f))

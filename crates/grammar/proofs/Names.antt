-- Names against binders' places: what a name means where it occurs.
use Rattle.std.proofs.Common.{◌≡◌, ℕ, suc, ◌<◌, ◌≤◌, Bool, true, false, cond, ◌||◌, eqb, ◌⊎◌, List, [], ◌∷◌, ◌++◌, sym, refl, ap, ◌∙◌, subst, inl, inr, append_assoc, arith}
use Rattle.std.proofs.lemmas.Bool.{eq-eqb, ne_eqb}
use Rattle.std.proofs.lemmas.Slice.Eq.{bytes_eq-Decides}
use Rattle.std.specs.Str.{bytes_eq}
use Rattle.calculus.specs.Terms.{free, without}
use Rattle.syntax.specs.Trees.{Name, Binder, Tree, occ, num, succ, lam, app, pair, split, iter, erase}
use Rattle.syntax.specs.Names.{binder_of, resolve, occurrences}
use Rattle.grammar.proofs.Places.{Ordered}

-- equal names
pub same_self : (w : Name) → bytes_eq w w ≡ true
same_self w = (bytes_eq-Decides w w).1 refl

pub same_is : (v w : Name) → bytes_eq v w ≡ true → v ≡ w
same_is v w h = (bytes_eq-Decides v w).0 h

pub same-turned : (v w : Name) → bytes_eq v w ≡ bytes_eq w v
same-turned v w = by (bytes_eq v w) refl (bytes_eq w v) refl
  where
    by : (b : Bool) → bytes_eq v w ≡ b → (c : Bool) → bytes_eq w v ≡ c → b ≡ c
    by true e true f = refl
    by false e false f = refl
    by true e false f = sym (same_self w) ∙ subst (λ u. bytes_eq w u ≡ false) (same_is v w e) f
    by false e true f = sym e ∙ (subst (λ u. bytes_eq v u ≡ true) (sym (same_is w v f)) (same_self v))

-- an occurrence: its place and its name
abbrev pub Use : Type 0
Use = ℕ × Name

-- without those of one name, and the places of those of one name
abbrev pub except : Name → List Use → List Use
except w [] = []
except w (o ∷ l) = cond (bytes_eq w o.1) (except w l) (o ∷ except w l)

abbrev pub places : Name → List Use → List ℕ
places w [] = []
places w (o ∷ l) = cond (bytes_eq w o.1) (o.0 ∷ places w l) (places w l)

-- the occurrences that no binder inside has
abbrev pub loose : Tree Name → List Use
loose (occ p w) = (p, w) ∷ []
loose (num p n) = []
loose (succ p t) = loose t
loose (lam p x T t) = except x.name (loose t)
loose (app p t u) = loose t ++ loose u
loose (pair p t u) = loose t ++ loose u
loose (split p x y t u) = loose t ++ except x.name (except y.name (loose u))
loose (iter p t u v) = loose t ++ (loose u ++ loose v)

-- by the binders in force
abbrev pub resolved : List Binder → List Use → List ℕ
resolved σ [] = []
resolved σ (o ∷ l) = binder_of o.1 σ o.0 ∷ resolved σ l

resolved_append : (σ : List Binder) (k l : List Use) → resolved σ (k ++ l) ≡ resolved σ k ++ resolved σ l
resolved_append σ [] l = refl
resolved_append σ (o ∷ k) l = ap (λ z. binder_of o.1 σ o.0 ∷ z) (resolved_append σ k l)

places_append : (w : Name) (k l : List Use) → places w (k ++ l) ≡ places w k ++ places w l
places_append w [] l = refl
places_append w (o ∷ k) l = by (bytes_eq w o.1) (places_append w k l)
  where
    by : (b : Bool) → places w (k ++ l) ≡ places w k ++ places w l → cond b (o.0 ∷ places w (k ++ l)) (places w (k ++ l)) ≡ cond b (o.0 ∷ places w k) (places w k) ++ places w l
    by true h = ap (λ z. o.0 ∷ z) h
    by false h = h

pub places_except : (w v : Name) (l : List Use) → places w (except v l) ≡ cond (bytes_eq w v) [] (places w l)
places_except w v [] = by (bytes_eq w v)
  where
    by : (b : Bool) → ◌≡◌ {A = List ℕ} [] (cond b [] [])
    by true = refl
    by false = refl
places_except w v (o ∷ l) = by (bytes_eq v o.1) refl (bytes_eq w v) refl (places_except w v l)
  where
    by : (b : Bool) → bytes_eq v o.1 ≡ b → (c : Bool) → bytes_eq w v ≡ c → places w (except v l) ≡ cond c [] (places w l) → places w (cond b (except v l) (o ∷ except v l)) ≡ cond c [] (places w (o ∷ l))
    by true e true f h = h
    by true e false f h = h ∙ (rw (subst (λ z. bytes_eq w z ≡ false) (same_is v o.1 e) f) refl)
    by false e true f h = rw (subst (λ z. bytes_eq z o.1 ≡ false) (sym (same_is w v f)) e) h
    by false e false f h = ap (λ z. cond (bytes_eq w o.1) (o.0 ∷ z) z) h

-- the definition of free occurrences, by uses
pub occurs : (w : Name) (t : Tree Name) → occurrences w t ≡ places w (loose t)
occurs w (occ p v) = refl
occurs w (num p n) = refl
occurs w (succ p t) = occurs w t
occurs w (lam p x T t) = rw (occurs w t) (sym (places_except w x.name (loose t)))
occurs w (app p t u) = rw (occurs w t, occurs w u) (sym (places_append w (loose t) (loose u)))
occurs w (pair p t u) = rw (occurs w t, occurs w u) (sym (places_append w (loose t) (loose u)))
occurs w (split p x y t u) =
    let e : places w (except x.name (except y.name (loose u))) ≡ cond (bytes_eq w x.name || bytes_eq w y.name) [] (places w (loose u)) =
    places_except w x.name (except y.name (loose u)) ∙ ap (cond (bytes_eq w x.name) []) (places_except w y.name (loose u)) ∙ twice (bytes_eq w x.name) (bytes_eq w y.name) in
    rw (occurs w t, occurs w u) (sym (places_append w (loose t) (except x.name (except y.name (loose u))) ∙ ap (λ z. places w (loose t) ++ z) e))
  where
    twice : (a b : Bool) → cond a [] (cond b [] (places w (loose u))) ≡ cond (a || b) [] (places w (loose u))
    twice true b = refl
    twice false b = refl
occurs w (iter p t u v) =
    rw (occurs w t, occurs w u, occurs w v) (sym (places_append w (loose t) (loose u ++ loose v) ∙ ap (λ z. places w (loose t) ++ z) (places_append w (loose u) (loose v))))

-- the innermost of the binders in force
pub innermost : (σ : List Binder) (x : Binder) (w : Name) (p : ℕ) → binder_of w (σ ++ (x ∷ [])) p ≡ cond (bytes_eq w x.name) x.place (binder_of w σ p)
innermost [] x w p = refl
innermost (y ∷ σ) x w p = innermost σ x w (cond (bytes_eq w y.name) y.place p)

-- binders in force stand before lo, and the uses from lo on
abbrev pub Below : ℕ → List Binder → Type 0
Below lo [] = Unit {0}
Below lo (x ∷ σ) = (x.place < lo) × Below lo σ

abbrev pub From : ℕ → List Use → Type 0
From lo [] = Unit {0}
From lo (o ∷ l) = (lo ≤ o.0) × From lo l

pub below_more : (a b : ℕ) (σ : List Binder) (x : Binder) → Below a σ → a ≤ b → x.place < b → Below b (σ ++ (x ∷ []))
below_more a b [] x h l k = (k, tt)
below_more a b (y ∷ σ) x h l k = (omega (arith, h.0), below_more a b σ x h.1 l k)

from_append : (lo : ℕ) (k l : List Use) → From lo k → From lo l → From lo (k ++ l)
from_append lo [] l x y = y
from_append lo (o ∷ k) l x y = (x.0, from_append lo k l x.1 y)

pub from_lower : (a b : ℕ) (l : List Use) → b ≤ a → From a l → From b l
from_lower a b [] k h = tt
from_lower a b (o ∷ l) k h = (omega (arith, h.0), from_lower a b l k h.1)

pub from_except : (lo : ℕ) (w : Name) (l : List Use) → From lo l → From lo (except w l)
from_except lo w [] h = tt
from_except lo w (o ∷ l) h = by (bytes_eq w o.1) (from_except lo w l h.1)
  where
    by : (b : Bool) → From lo (except w l) → From lo (cond b (except w l) (o ∷ except w l))
    by true k = k
    by false k = (h.0, k)

pub loose_from : (t : Tree Name) (lo : ℕ) → Ordered lo t → From lo (loose t)
loose_from (occ p w) lo h = (h, tt)
loose_from (num p n) lo h = tt
loose_from (succ p t) lo h = loose_from t lo h
loose_from (lam p x T t) lo h = from_except lo x.name (loose t) (from_lower (suc x.place) lo (loose t) (omega (arith, h.0)) (loose_from t (suc x.place) h.1))
loose_from (app p t u) lo h = from_append lo (loose t) (loose u) (loose_from t lo h.0) (loose_from u lo h.1)
loose_from (pair p t u) lo h = from_append lo (loose t) (loose u) (loose_from t lo h.0) (loose_from u lo h.1)
loose_from (split p x y t u) lo h =
    from_append lo (loose t) (except x.name (except y.name (loose u))) (loose_from t lo h.2)
    (from_except lo x.name (except y.name (loose u)) (from_except lo y.name (loose u) (from_lower (suc y.place) lo (loose u) (omega (arith, h.0, h.1)) (loose_from u (suc y.place) h.3))))
loose_from (iter p t u v) lo h = from_append lo (loose t) (loose u ++ loose v) (loose_from t lo h.0) (from_append lo (loose u) (loose v) (loose_from u lo h.1) (loose_from v lo h.2))

-- a binder in force, or the use itself where there is none
elsewhere : (lo : ℕ) (σ : List Binder) (w : Name) (p : ℕ) → Below lo σ → (binder_of w σ p < lo) ⊎ (binder_of w σ p ≡ p)
elsewhere lo [] w p h = inr refl
elsewhere lo (x ∷ σ) w p h = by (bytes_eq w x.name) (elsewhere lo σ w x.place h.1) (elsewhere lo σ w p h.1)
  where
    by : (b : Bool) → (binder_of w σ x.place < lo) ⊎ (binder_of w σ x.place ≡ x.place) → (binder_of w σ p < lo) ⊎ (binder_of w σ p ≡ p) → (binder_of w σ (cond b x.place p) < lo) ⊎ (binder_of w σ (cond b x.place p) ≡ p)
    by true (inl k) m = inl k
    by true (inr k) m = inl (subst (λ z. z < lo) (sym k) h.0)
    by false k m = m

-- a use that is not the binder's is none of it
pub not_its : (lo : ℕ) (σ : List Binder) (w : Name) (p b : ℕ) → Below lo σ → lo ≤ b → b < p → eqb b (binder_of w σ p) ≡ false
not_its lo σ w p b h l k = ne_eqb b (binder_of w σ p) (λ e. elim (elsewhere lo σ w p h) [ inl m ↦ omega arith | inr m ↦ omega arith ])

-- a binder's scope left: its uses go, and the others are as outside
leave : (lo : ℕ) (σ : List Binder) (x : Binder) (l : List Use) → Below lo σ → lo ≤ x.place → From (suc x.place) l → without x.place (resolved (σ ++ (x ∷ [])) l) ≡ resolved σ (except x.name l)
leave lo σ x [] h k f = refl
leave lo σ x (o ∷ l) h k f = by (bytes_eq x.name o.1) refl (leave lo σ x l h k f.1)
  where
    by : (b : Bool) → bytes_eq x.name o.1 ≡ b → without x.place (resolved (σ ++ (x ∷ [])) l) ≡ resolved σ (except x.name l) → without x.place (binder_of o.1 (σ ++ (x ∷ [])) o.0 ∷ resolved (σ ++ (x ∷ [])) l) ≡ resolved σ (cond b (except x.name l) (o ∷ except x.name l))
    by true e ih = rw (innermost σ x o.1 o.0, same-turned o.1 x.name, e, eq-eqb x.place x.place refl) ih
    by false e ih = rw (innermost σ x o.1 o.0, same-turned o.1 x.name, e, not_its lo σ o.1 o.0 x.place h k f.0) (ap (λ z. binder_of o.1 σ o.0 ∷ z) ih)

pub two_more : (σ : List Binder) (x y : Binder) → σ ++ (x ∷ y ∷ []) ≡ (σ ++ (x ∷ [])) ++ (y ∷ [])
two_more σ x y = sym (append_assoc σ (x ∷ []) (y ∷ []))

pub below_two : (lo : ℕ) (σ : List Binder) (x y : Binder) → Below lo σ → lo ≤ x.place → x.place < y.place → Below (suc y.place) (σ ++ (x ∷ y ∷ []))
below_two lo σ x y h l k = subst (Below (suc y.place)) (sym (two_more σ x y)) (below_more (suc x.place) (suc y.place) (σ ++ (x ∷ [])) y (below_more lo (suc x.place) σ x h (omega arith) (omega arith)) (omega arith) (omega arith))

-- the free variables of the resolved term are the binders of its loose uses
pub uses : (t : Tree Name) (σ : List Binder) (lo : ℕ) → Below lo σ → Ordered lo t → free (erase (resolve σ t)) ≡ resolved σ (loose t)
uses (occ p w) σ lo h k = refl
uses (num p n) σ lo h k = refl
uses (succ p t) σ lo h k = uses t σ lo h k
uses (lam p x T t) σ lo h k =
    ap (without x.place) (uses t (σ ++ (x ∷ [])) (suc x.place) (below_more lo (suc x.place) σ x h (omega (arith, k.0)) (omega arith)) k.1) ∙ leave lo σ x (loose t) h k.0 (loose_from t (suc x.place) k.1)
uses (app p t u) σ lo h k = rw (uses t σ lo h k.0, uses u σ lo h k.1) (sym (resolved_append σ (loose t) (loose u)))
uses (pair p t u) σ lo h k = rw (uses t σ lo h k.0, uses u σ lo h k.1) (sym (resolved_append σ (loose t) (loose u)))
uses (split p x y t u) σ lo h k =
    let τ = σ ++ (x ∷ []) in
    let m = below_more lo (suc x.place) σ x h (omega (arith, k.0)) (omega arith) in
    let n = below_more (suc x.place) (suc y.place) τ y m (omega (arith, k.1)) (omega arith) in
    let f = loose_from u (suc y.place) k.3 in
    let a : free (erase (resolve (σ ++ (x ∷ y ∷ [])) u)) ≡ resolved (τ ++ (y ∷ [])) (loose u) = ap (λ ρ. free (erase (resolve ρ u))) (two_more σ x y) ∙ uses u (τ ++ (y ∷ [])) (suc y.place) n k.3 in
    let b = leave (suc x.place) τ y (loose u) m k.1 f in
    let c = leave lo σ x (except y.name (loose u)) h k.0 (from_except (suc x.place) y.name (loose u) (from_lower (suc y.place) (suc x.place) (loose u) (omega (arith, k.1)) f)) in
    let d : without x.place (without y.place (free (erase (resolve (σ ++ (x ∷ y ∷ [])) u)))) ≡ resolved σ (except x.name (except y.name (loose u))) = ap (λ z. without x.place (without y.place z)) a ∙ ap (without x.place) b ∙ c in
    rw (uses t σ lo h k.2, d) (sym (resolved_append σ (loose t) (except x.name (except y.name (loose u)))))
uses (iter p t u v) σ lo h k =
    rw (uses t σ lo h k.0, uses u σ lo h k.1, uses v σ lo h k.2) (sym (resolved_append σ (loose t) (loose u ++ loose v) ∙ ap (λ z. resolved σ (loose t) ++ z) (resolved_append σ (loose u) (loose v))))

-- The limits, as the reader asks them sign by sign, and as they stand over all the signs of a term.
use Rattle.std.proofs.Common.{◌≡◌, ℕ, suc, ◌+◌, ◌≤◌, max, Bool, true, false, cond, not, ◌&&◌, ◌||◌, ltb, leb, ◌⊎◌, List, [], ◌∷◌, ◌++◌, sym, refl, ◌∙◌, subst, inl, inr, arith}
use Rattle.std.proofs.lemmas.Bool.{le-leb, leb-true, leb-false, ltb-true, lt-ltb, and_parts, and_from, both_ways}
use Rattle.calculus.specs.Types.{Ty, N, ◌⇒◌, ◌⊗◌, height, signs}
use Rattle.syntax.specs.declared.refusal.Fault.{Fault}
use Rattle.syntax.specs.declared.refusal.Fault.TheVariants.{LargeNumber, PassedLimit}
use Rattle.syntax.specs.Trees.{Tree, occ, num, succ, lam, app, pair, split, iter}
use Rattle.syntax.specs.Grammar.{size, type_signs, depth, type_depth, largest as largest_number, Within}
use Rattle.grammar.specs.Roles.{Role, begins, bracket, connective, plain, type_roles, roles, counted, greatest, largest, Kept, Broken, too_large, passed}
use Rattle.grammar.proofs.Runs.{Checks, passes, refuses, Leads}
use Rattle.grammar.proofs.Simulation.{room, limits}

-- the five measures of a list of roles
record Measures (l : List Role) (a b c d e : ℕ) : Type 0 where
  pub terms : counted (λ ρ. ρ.subterm) l ≡ a
  pub depths : greatest (λ ρ. ρ.depth) l ≡ b
  pub types : counted (λ ρ. ρ.type_sign) l ≡ c
  pub type_depths : greatest (λ ρ. ρ.type_depth) l ≡ d
  pub numbers : largest l ≡ e

counted-append : (f : Role → Bool) (k l : List Role) → counted f (k ++ l) ≡ counted f k + counted f l
counted-append f [] l = omega arith
counted-append f (ρ ∷ k) l = by (f ρ) _ _ _ (counted-append f k l)
  where
    by : (b : Bool) (x y z : ℕ) → x ≡ y + z → cond b (suc x) x ≡ cond b (suc y) y + z
    by true x y z h = omega arith
    by false x y z h = h

greatest-append : (f : Role → ℕ) (k l : List Role) → greatest f (k ++ l) ≡ max (greatest f k) (greatest f l)
greatest-append f [] l = omega arith
greatest-append f (ρ ∷ k) l = omega (arith, greatest-append f k l)

appended : (k l : List Role) → Measures (k ++ l) (counted (λ ρ. ρ.subterm) k + counted (λ ρ. ρ.subterm) l) (max (greatest (λ ρ. ρ.depth) k) (greatest (λ ρ. ρ.depth) l)) (counted (λ ρ. ρ.type_sign) k + counted (λ ρ. ρ.type_sign) l) (max (greatest (λ ρ. ρ.type_depth) k) (greatest (λ ρ. ρ.type_depth) l)) (max (largest k) (largest l))
appended k l = record { terms = counted-append (λ ρ. ρ.subterm) k l; depths = greatest-append (λ ρ. ρ.depth) k l; types = counted-append (λ ρ. ρ.type_sign) k l; type_depths = greatest-append (λ ρ. ρ.type_depth) k l; numbers = greatest-append (λ ρ. ρ.value) k l }

in_brackets : (k l : List Role) (m n d a b : ℕ) → Measures k 0 0 m (suc d + a) 0 → Measures l 0 0 n (suc d + b) 0 → Measures (bracket d ∷ (k ++ (connective ∷ (l ++ (plain ∷ []))))) 0 0 (suc (m + n)) (d + suc (max a b)) 0
in_brackets k l m n d a b x y =
    let u = appended k (connective ∷ (l ++ (plain ∷ []))) in
    let v = appended l (plain ∷ []) in
    record { terms = omega arith; depths = omega arith; types = omega arith; type_depths = omega arith; numbers = omega arith }

type_measures : (T : Ty) (d : ℕ) → Measures (type_roles d T) 0 0 (signs T) (d + height T) 0
type_measures N d = record { terms = refl; depths = refl; types = refl; type_depths = omega arith; numbers = refl }
type_measures (A ⇒ B) d = in_brackets (type_roles (suc d) A) (type_roles (suc d) B) (signs A) (signs B) d (height A) (height B) (type_measures A (suc d)) (type_measures B (suc d))
type_measures (A ⊗ B) d = in_brackets (type_roles (suc d) A) (type_roles (suc d) B) (signs A) (signs B) d (height A) (height B) (type_measures A (suc d)) (type_measures B (suc d))

deeper : (d a x b y : ℕ) → suc a ≡ suc d + x → suc b ≡ suc d + y → suc (max a b) ≡ suc d + max x y
deeper d a x b y h k = omega arith

deepest : (d a x : ℕ) → suc a ≡ suc d + x → suc (max d a) ≡ d + suc x
deepest d a x h = omega arith

-- a term d deep, d at least 1: its deepest sub-term is `deep` deep
record Term (l : List Role) (terms depth d types type_depths numbers : ℕ) : Type 0 where
  pub deep : ℕ
  pub is : suc deep ≡ d + depth
  pub all : Measures l terms deep types type_depths numbers

begun : (n : ℕ) (l : List Role) (a b c d e : ℕ) → Measures l a b c d e → Measures (begins n ∷ l) (suc a) (max n b) c d e
begun n l a b c d e h = record { terms = omega arith; depths = omega arith; types = omega arith; type_depths = omega arith; numbers = omega arith }

plainly : (l : List Role) (a b c d e : ℕ) → Measures l a b c d e → Measures (plain ∷ l) a b c d e
plainly l a b c d e h = record { terms = omega arith; depths = omega arith; types = omega arith; type_depths = omega arith; numbers = omega arith }

term_measures : {U : Type 0} (t : Tree U) (d : ℕ) → Term (roles d t) (size t) (depth t) d (type_signs t) (type_depth t) (largest_number t)
term_measures (occ p x) d = record { deep = d; is = omega arith; all = record { terms = refl; depths = omega arith; types = refl; type_depths = refl; numbers = refl } }
term_measures (num p n) d = record { deep = d; is = omega arith; all = record { terms = refl; depths = omega arith; types = refl; type_depths = refl; numbers = omega arith } }
term_measures (succ p t) d =
    let a = term_measures t (suc d) in
    record { deep = max d a.deep; is = omega arith; all = record { terms = omega arith; depths = omega arith; types = omega arith; type_depths = omega arith; numbers = omega arith } }
term_measures (lam p x T t) d =
    let a = term_measures t (suc d) in
    let b = type_measures T 1 in
    let u = appended (type_roles 1 T) (plain ∷ roles (suc d) t) in
    record { deep = max d a.deep; is = omega arith; all = record { terms = omega arith; depths = omega arith; types = omega arith; type_depths = omega arith; numbers = omega arith } }
term_measures (app p t u) d =
    let a = term_measures t (suc d) in
    let b = term_measures u (suc d) in
    let v = appended (roles (suc d) t) (roles (suc d) u ++ (plain ∷ [])) in
    let w = appended (roles (suc d) u) (plain ∷ []) in
    record { deep = max d (max a.deep b.deep); is = omega arith; all = record { terms = omega arith; depths = omega arith; types = omega arith; type_depths = omega arith; numbers = omega arith } }
term_measures (pair p t u) d =
    let a = term_measures t (suc d) in
    let b = term_measures u (suc d) in
    let v = appended (roles (suc d) t) (plain ∷ (roles (suc d) u ++ (plain ∷ []))) in
    let w = appended (roles (suc d) u) (plain ∷ []) in
    record { deep = max d (max a.deep b.deep); is = omega arith; all = record { terms = omega arith; depths = omega arith; types = omega arith; type_depths = omega arith; numbers = omega arith } }
term_measures (split p x y t u) d =
    let a = term_measures t (suc d) in
    let b = term_measures u (suc d) in
    let v = appended (roles (suc d) t) (plain ∷ roles (suc d) u) in
    let m : Measures (roles (suc d) t ++ (plain ∷ roles (suc d) u)) (size t + size u) (max a.deep b.deep) (type_signs t + type_signs u) (max (type_depth t) (type_depth u)) (max (largest_number t) (largest_number u)) =
    record { terms = omega arith; depths = omega arith; types = omega arith; type_depths = omega arith; numbers = omega arith } in
    let head = plainly _ _ _ _ _ _ (plainly _ _ _ _ _ _ (plainly _ _ _ _ _ _ (plainly _ _ _ _ _ _ (plainly _ _ _ _ _ _ (plainly _ _ _ _ _ _ m))))) in
    record { deep = max d (max a.deep b.deep); is = deepest d _ _ (deeper d _ _ _ _ a.is b.is); all = begun d _ _ _ _ _ _ head }
term_measures (iter p t u v) d =
    let a = term_measures t (suc d) in
    let b = term_measures u (suc d) in
    let c = term_measures v (suc d) in
    let x = appended (roles (suc d) t) (roles (suc d) u ++ roles (suc d) v) in
    let y = appended (roles (suc d) u) (roles (suc d) v) in
    record { deep = max d (max a.deep (max b.deep c.deep)); is = deepest d _ _ (deeper d _ _ _ _ a.is (deeper d _ _ _ _ b.is c.is)); all = record { terms = omega arith; depths = omega arith; types = omega arith; type_depths = omega arith; numbers = omega arith } }

-- a term is within the limits exactly when its signs keep them
pub within_kept : {U : Type 0} (t : Tree U) → Within t → Kept (roles 1 t)
within_kept t h =
    let m = term_measures t 1 in
    record { numbers = omega (arith, h.numbers); subterms = omega (arith, h.subterms); deep = omega (arith, h.deep); signs = omega (arith, h.signs); types_deep = omega (arith, h.types_deep) }

pub kept_within : {U : Type 0} (t : Tree U) → Kept (roles 1 t) → Within t
kept_within t h =
    let m = term_measures t 1 in
    record { numbers = omega (arith, h.numbers); subterms = omega (arith, h.subterms); deep = omega (arith, h.deep); signs = omega (arith, h.signs); types_deep = omega (arith, h.types_deep) }

-- one more sign, where n and m are counted before it
abbrev more : Bool → ℕ → ℕ
more b n = cond b (suc n) n

more_counts : (b : Bool) (n c : ℕ) → n + cond b (suc c) c ≡ more b n + c
more_counts true n c = omega arith
more_counts false n c = refl

may-count : (b : Bool) (n : ℕ) → (not b || ltb n 2048) ≡ true → n ≤ 2048 → more b n ≤ 2048
may-count true n h l = ltb-true n 2048 h
may-count false n h l = l

count-may : (b : Bool) (n : ℕ) → more b n ≤ 2048 → (not b || ltb n 2048) ≡ true
count-may true n h = lt-ltb n 2048 h
count-may false n h = refl

record Room (n m : ℕ) (ρ : Role) : Type 0 where
  pub value : ρ.value ≤ 1000000000
  pub deep : ρ.depth ≤ 128
  pub types_deep : ρ.type_depth ≤ 64
  pub terms : more ρ.subterm n ≤ 2048
  pub types : more ρ.type_sign m ≤ 2048

-- the test passes exactly where there is room
passing : (b c : Bool) (k j n m : ℕ) → cond b (cond c (passes n m) (refuses PassedLimit)) (refuses LargeNumber) ≡ passes k j → (b ≡ true) × (c ≡ true) × (n ≡ k) × (m ≡ j)
passing true true k j n m h = (refl, refl, cc, cc)
passing true false k j n m h = let z : ◌≡◌ {A = ℕ} 0 1 = cc in absurd (omega arith)
passing false c k j n m h = let z : ◌≡◌ {A = ℕ} 0 1 = cc in absurd (omega arith)

room_is : (n m : ℕ) (ρ : Role) → n ≤ 2048 → m ≤ 2048 → leb ρ.value 1000000000 ≡ true → room n m ρ ≡ true → Room n m ρ
room_is n m ρ l k v h =
    let a = and_parts (leb ρ.depth 128 && (not ρ.subterm || ltb n 2048)) (leb ρ.type_depth 64 && (not ρ.type_sign || ltb m 2048)) h in
    let b = and_parts (leb ρ.depth 128) (not ρ.subterm || ltb n 2048) a.0 in
    let c = and_parts (leb ρ.type_depth 64) (not ρ.type_sign || ltb m 2048) a.1 in
    record { value = leb-true ρ.value 1000000000 v; deep = leb-true ρ.depth 128 b.0; types_deep = leb-true ρ.type_depth 64 c.0; terms = may-count ρ.subterm n b.1 l; types = may-count ρ.type_sign m c.1 k }

is_room : (n m : ℕ) (ρ : Role) → Room n m ρ → room n m ρ ≡ true
is_room n m ρ h =
    and_from (leb ρ.depth 128 && (not ρ.subterm || ltb n 2048)) (leb ρ.type_depth 64 && (not ρ.type_sign || ltb m 2048))
    (and_from (leb ρ.depth 128) (not ρ.subterm || ltb n 2048) (le-leb ρ.depth 128 h.deep) (count-may ρ.subterm n h.terms))
    (and_from (leb ρ.type_depth 64) (not ρ.type_sign || ltb m 2048) (le-leb ρ.type_depth 64 h.types_deep) (count-may ρ.type_sign m h.types))

-- the limits on roles, where n sub-terms and m type signs stand before them
pub record KeptFrom (n m : ℕ) (l : List Role) : Type 0 where
  pub numbers : largest l ≤ 1000000000
  pub subterms : n + counted (λ ρ. ρ.subterm) l ≤ 2048
  pub deep : greatest (λ ρ. ρ.depth) l ≤ 128
  pub signs : m + counted (λ ρ. ρ.type_sign) l ≤ 2048
  pub types_deep : greatest (λ ρ. ρ.type_depth) l ≤ 64

kept_cons : (n m : ℕ) (ρ : Role) (l : List Role) → Room n m ρ → KeptFrom (more ρ.subterm n) (more ρ.type_sign m) l → KeptFrom n m (ρ ∷ l)
kept_cons n m ρ l r h =
    let x = more_counts ρ.subterm n (counted (λ σ. σ.subterm) l) in
    let y = more_counts ρ.type_sign m (counted (λ σ. σ.type_sign) l) in
    record { numbers = omega (arith, r.value, h.numbers); subterms = rw x h.subterms; deep = omega (arith, r.deep, h.deep); signs = rw y h.signs; types_deep = omega (arith, r.types_deep, h.types_deep) }

room_head : (n m : ℕ) (ρ : Role) (l : List Role) → KeptFrom n m (ρ ∷ l) → Room n m ρ
room_head n m ρ l h =
    let x = more_counts ρ.subterm n (counted (λ σ. σ.subterm) l) in
    let y = more_counts ρ.type_sign m (counted (λ σ. σ.type_sign) l) in
    let a : more ρ.subterm n + counted (λ σ. σ.subterm) l ≤ 2048 = rw x at h.subterms in
    let b : more ρ.type_sign m + counted (λ σ. σ.type_sign) l ≤ 2048 = rw y at h.signs in
    record { value = omega (arith, h.numbers); deep = omega (arith, h.deep); types_deep = omega (arith, h.types_deep); terms = omega (arith, a); types = omega (arith, b) }

kept_tail : (n m : ℕ) (ρ : Role) (l : List Role) → KeptFrom n m (ρ ∷ l) → KeptFrom (more ρ.subterm n) (more ρ.type_sign m) l
kept_tail n m ρ l h =
    let x = more_counts ρ.subterm n (counted (λ σ. σ.subterm) l) in
    let y = more_counts ρ.type_sign m (counted (λ σ. σ.type_sign) l) in
    record { numbers = omega (arith, h.numbers); subterms = rw x at h.subterms; deep = omega (arith, h.deep); signs = rw y at h.signs; types_deep = omega (arith, h.types_deep) }

-- roles that the check passes keep the limits, and it counts them; and the other way round
pub record Counted (n m a b : ℕ) (l : List Role) : Type 0 where
  pub kept : KeptFrom n m l
  pub first : a ≡ n + counted (λ ρ. ρ.subterm) l
  pub second : b ≡ m + counted (λ ρ. ρ.type_sign) l

pub leads_kept : (l : List Role) (n m a b : ℕ) → n ≤ 2048 → m ≤ 2048 → Leads limits n m l a b → Counted n m a b l
leads_kept [] n m a b x y h = record { kept = record { numbers = omega arith; subterms = omega arith; deep = omega arith; signs = omega arith; types_deep = omega arith }; first = omega (arith, h.0); second = omega (arith, h.1) }
leads_kept (ρ ∷ l) n m a b x y (k, j, c, h) =
    let p = passing (leb ρ.value 1000000000) (room n m ρ) k j (more ρ.subterm n) (more ρ.type_sign m) c in
    let r = room_is n m ρ x y p.0 p.1 in
    let h' = subst (λ z. Leads limits z (more ρ.type_sign m) l a b) (sym p.2) (subst (λ z. Leads limits k z l a b) (sym p.3) h) in
    let s = leads_kept l (more ρ.subterm n) (more ρ.type_sign m) a b r.terms r.types h' in
    record { kept = kept_cons n m ρ l r s.kept; first = s.first ∙ sym (more_counts ρ.subterm n (counted (λ σ. σ.subterm) l)); second = s.second ∙ sym (more_counts ρ.type_sign m (counted (λ σ. σ.type_sign) l)) }

pub kept_leads : (l : List Role) (n m : ℕ) → KeptFrom n m l → (a : ℕ) × (b : ℕ) × Leads limits n m l a b
kept_leads [] n m h = (n, m, (refl, refl))
kept_leads (ρ ∷ l) n m h =
    let r = room_head n m ρ l h in
    let t = kept_leads l (more ρ.subterm n) (more ρ.type_sign m) (kept_tail n m ρ l h) in
    let c : limits n m ρ ≡ passes (more ρ.subterm n) (more ρ.type_sign m) = rw (le-leb ρ.value 1000000000 r.value, is_room n m ρ r) refl in
    (t.0, t.1, (more ρ.subterm n, more ρ.type_sign m, c, t.2))

pub kept_from : (l : List Role) → Kept l → KeptFrom 0 0 l
kept_from l h = record { numbers = h.numbers; subterms = omega (arith, h.subterms); deep = h.deep; signs = omega (arith, h.signs); types_deep = h.types_deep }

pub from_kept : (l : List Role) → KeptFrom 0 0 l → Kept l
from_kept l h = record { numbers = h.numbers; subterms = omega (arith, h.subterms); deep = h.deep; signs = omega (arith, h.signs); types_deep = h.types_deep }

-- a role that the check refuses breaks a limit
refusing : (b c : Bool) (f : Fault) (o : Checks) (n m : ℕ) → cond b (cond c (passes n m) (refuses PassedLimit)) (refuses LargeNumber) ≡ refuses f → ((b ≡ false) × (LargeNumber ≡ f)) ⊎ ((b ≡ true) × (c ≡ false) × (PassedLimit ≡ f))
refusing true true f o n m h = let z : ◌≡◌ {A = ℕ} 0 1 = cc in absurd (omega arith)
refusing true false f o n m h = inr (refl, refl, cc)
refusing false c f o n m h = inl (refl, cc)

pub breaks : (l : List Role) (ρ : Role) (a b : ℕ) (f : Fault) → Counted 0 0 a b l → limits a b ρ ≡ refuses f → Broken (l ++ (ρ ∷ [])) f
breaks l ρ a b f h c =
    let v = appended l (ρ ∷ []) in
    elim (refusing (leb ρ.value 1000000000) (room a b ρ) f (refuses f) (more ρ.subterm a) (more ρ.type_sign b) c) [
      | inl p ↦ subst (Broken (l ++ (ρ ∷ []))) p.1 (too_large (let w = leb-false ρ.value 1000000000 p.0 in omega arith))
      | inr p ↦ subst (Broken (l ++ (ρ ∷ []))) p.2 (passed (let w = leb-true ρ.value 1000000000 p.0 in let u = h.kept.numbers in omega arith) (λ k.
          let x = more_counts ρ.subterm a 0 in
          let y = more_counts ρ.type_sign b 0 in
          let r : Room a b ρ = record { value = leb-true ρ.value 1000000000 p.0; deep = omega (arith, k.deep); types_deep = omega (arith, k.types_deep); terms = omega (arith, k.subterms, h.first, x); types = omega (arith, k.signs, h.second, y) } in
          both_ways (room a b ρ) p.1 (is_room a b ρ r)))
    ]

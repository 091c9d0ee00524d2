-- The faults of names by the binders that occurrences are resolved to.
use Rattle.std.proofs.Common.{◌≡◌, ℕ, suc, ◌<◌, ◌≤◌, Bool, true, false, cond, not, ◌||◌, eqb, ◌⊎◌, List, [], ◌∷◌, ◌++◌, length, sym, refl, ap, ◌∙◌, subst, inl, inr, append_assoc, append-nil, arith}
use Rattle.std.proofs.lemmas.Bool.{eq-eqb, ne_eqb, or_parts}
use Rattle.std.specs.Str.{bytes_eq}
use Rattle.calculus.specs.Terms.{free}
use Rattle.syntax.specs.declared.refusal.Fault.TheVariants.{Unbound}
use Rattle.syntax.specs.declared.refusal.Refusal.{Refusal}
use Rattle.syntax.specs.Trees.{Name, Binder, Tree, occ, num, succ, lam, app, pair, split, iter, erase}
use Rattle.syntax.specs.Names.{binder_of, resolve, among, fault, unbound, binders, occurrences, used_once, misused}
use Rattle.grammar.specs.Uses.{count}
use Rattle.grammar.specs.Naming.{uses}
use Rattle.grammar.proofs.Places.{Ordered, Spans, spans_up, lower, spans_ordered}
use Rattle.grammar.proofs.Names.{Use, except, places, loose, resolved, uses as frees, Below, From, below_more, below_two, two_more, innermost, not_its, places_except, occurs, loose_from, from_except, from_lower, same-turned}

-- the occurrences that the binder at b has
abbrev pub owned : ℕ → List (ℕ × ℕ) → List ℕ
owned b [] = []
owned b (o ∷ l) = cond (eqb b o.1) (o.0 ∷ owned b l) (owned b l)

pub owned_append : (b : ℕ) (k l : List (ℕ × ℕ)) → owned b (k ++ l) ≡ owned b k ++ owned b l
owned_append b [] l = refl
owned_append b (o ∷ k) l = by (eqb b o.1) (owned_append b k l)
  where
    by : (c : Bool) → owned b (k ++ l) ≡ owned b k ++ owned b l → cond c (o.0 ∷ owned b (k ++ l)) (owned b (k ++ l)) ≡ cond c (o.0 ∷ owned b k) (owned b k) ++ owned b l
    by true h = ap (λ z. o.0 ∷ z) h
    by false h = h

-- loose uses with their binders
abbrev pairs : List Binder → List Use → List (ℕ × ℕ)
pairs σ [] = []
pairs σ (o ∷ l) = (o.0, binder_of o.1 σ o.0) ∷ pairs σ l

pairs_append : (σ : List Binder) (k l : List Use) → pairs σ (k ++ l) ≡ pairs σ k ++ pairs σ l
pairs_append σ [] l = refl
pairs_append σ (o ∷ k) l = ap (λ z. (o.0, binder_of o.1 σ o.0) ∷ z) (pairs_append σ k l)

-- another binder's uses, in its scope and outside
outer : (b : ℕ) (σ : List Binder) (x : Binder) (l : List Use) → eqb b x.place ≡ false → owned b (pairs (σ ++ (x ∷ [])) l) ≡ owned b (pairs σ (except x.name l))
outer b σ x [] h = refl
outer b σ x (o ∷ l) h = by (bytes_eq x.name o.1) refl (outer b σ x l h)
  where
    by : (c : Bool) → bytes_eq x.name o.1 ≡ c → owned b (pairs (σ ++ (x ∷ [])) l) ≡ owned b (pairs σ (except x.name l)) → owned b (pairs (σ ++ (x ∷ [])) (o ∷ l)) ≡ owned b (pairs σ (cond c (except x.name l) (o ∷ except x.name l)))
    by true e i = rw (innermost σ x o.1 o.0, same-turned o.1 x.name, e, h) i
    by false e i = rw (innermost σ x o.1 o.0, same-turned o.1 x.name, e) (ap (λ z. cond (eqb b (binder_of o.1 σ o.0)) (o.0 ∷ z) z) i)

-- a binder's own uses are those of its name
inner : (lo : ℕ) (σ : List Binder) (x : Binder) (l : List Use) → Below lo σ → lo ≤ x.place → From (suc x.place) l → owned x.place (pairs (σ ++ (x ∷ [])) l) ≡ places x.name l
inner lo σ x [] h k f = refl
inner lo σ x (o ∷ l) h k f = by (bytes_eq x.name o.1) refl (inner lo σ x l h k f.1)
  where
    by : (c : Bool) → bytes_eq x.name o.1 ≡ c → owned x.place (pairs (σ ++ (x ∷ [])) l) ≡ places x.name l → owned x.place (pairs (σ ++ (x ∷ [])) (o ∷ l)) ≡ cond c (o.0 ∷ places x.name l) (places x.name l)
    by true e i = rw (innermost σ x o.1 o.0, same-turned o.1 x.name, e, eq-eqb x.place x.place refl) (ap (λ z. o.0 ∷ z) i)
    by false e i = rw (innermost σ x o.1 o.0, same-turned o.1 x.name, e, not_its lo σ o.1 o.0 x.place h k f.0) i

both_owned : (b : ℕ) (k l k' l' : List (ℕ × ℕ)) → owned b k ≡ owned b k' → owned b l ≡ owned b l' → owned b (k ++ l) ≡ owned b (k' ++ l')
both_owned b k l k' l' x y = owned_append b k l ∙ ap (λ z. z ++ owned b l) x ∙ ap (λ z. owned b k' ++ z) y ∙ sym (owned_append b k' l')

-- a binder outside a term has those of its loose uses
owned_loose : (t : Tree Name) (σ : List Binder) (lo b : ℕ) → b < lo → Ordered lo t → owned b (uses (resolve σ t)) ≡ owned b (pairs σ (loose t))
owned_loose (occ p w) σ lo b h o = refl
owned_loose (num p n) σ lo b h o = refl
owned_loose (succ p t) σ lo b h o = owned_loose t σ lo b h o
owned_loose (lam p x T t) σ lo b h o = owned_loose t (σ ++ (x ∷ [])) (suc x.place) b (omega (arith, o.0)) o.1 ∙ outer b σ x (loose t) (ne_eqb b x.place (λ e. let l = o.0 in omega arith))
owned_loose (app p t u) σ lo b h o = both_owned b _ _ _ _ (owned_loose t σ lo b h o.0) (owned_loose u σ lo b h o.1) ∙ ap (owned b) (sym (pairs_append σ (loose t) (loose u)))
owned_loose (pair p t u) σ lo b h o = both_owned b _ _ _ _ (owned_loose t σ lo b h o.0) (owned_loose u σ lo b h o.1) ∙ ap (owned b) (sym (pairs_append σ (loose t) (loose u)))
owned_loose (split p x y t u) σ lo b h o =
    let τ = σ ++ (x ∷ []) in
    let e = ap (λ ρ. owned b (uses (resolve ρ u))) (two_more σ x y) ∙ owned_loose u (τ ++ (y ∷ [])) (suc y.place) b (omega (arith, o.0, o.1)) o.3
    ∙ outer b τ y (loose u) (ne_eqb b y.place (λ e. let l = o.0 in let k = o.1 in omega arith))
    ∙ outer b σ x (except y.name (loose u)) (ne_eqb b x.place (λ e. let l = o.0 in omega arith)) in
    both_owned b _ _ _ _ (owned_loose t σ lo b h o.2) e ∙ ap (owned b) (sym (pairs_append σ (loose t) (except x.name (except y.name (loose u)))))
owned_loose (iter p t u v) σ lo b h o =
    both_owned b _ _ _ _ (owned_loose t σ lo b h o.0) (both_owned b _ _ _ _ (owned_loose u σ lo b h o.1) (owned_loose v σ lo b h o.2) ∙ ap (owned b) (sym (pairs_append σ (loose u) (loose v)))) ∙ ap (owned b) (sym (pairs_append σ (loose t) (loose u ++ loose v)))

-- what a function's binder, and each binder of a let, has
owns : (σ : List Binder) (lo : ℕ) (x : Binder) (t : Tree Name) → Below lo σ → lo ≤ x.place → Ordered (suc x.place) t → owned x.place (uses (resolve (σ ++ (x ∷ [])) t)) ≡ occurrences x.name t
owns σ lo x t h l o = owned_loose t (σ ++ (x ∷ [])) (suc x.place) x.place (omega arith) o ∙ inner lo σ x (loose t) h l (loose_from t (suc x.place) o) ∙ sym (occurs x.name t)

owns_second : (σ : List Binder) (lo : ℕ) (x y : Binder) (u : Tree Name) → Below lo σ → lo ≤ x.place → x.place < y.place → Ordered (suc y.place) u → owned y.place (uses (resolve (σ ++ (x ∷ y ∷ [])) u)) ≡ occurrences y.name u
owns_second σ lo x y u h l k o = ap (λ ρ. owned y.place (uses (resolve ρ u))) (two_more σ x y) ∙ owns (σ ++ (x ∷ [])) (suc x.place) y u (below_more lo (suc x.place) σ x h (omega arith) (omega arith)) k o

owns_first : (σ : List Binder) (lo : ℕ) (x y : Binder) (u : Tree Name) → Below lo σ → lo ≤ x.place → x.place < y.place → Ordered (suc y.place) u → owned x.place (uses (resolve (σ ++ (x ∷ y ∷ [])) u)) ≡ cond (bytes_eq x.name y.name) [] (occurrences x.name u)
owns_first σ lo x y u h l k o =
    let τ = σ ++ (x ∷ []) in
    let f = from_except (suc x.place) y.name (loose u) (from_lower (suc y.place) (suc x.place) (loose u) (omega arith) (loose_from u (suc y.place) o)) in
    ap (λ ρ. owned x.place (uses (resolve ρ u))) (two_more σ x y)
    ∙ owned_loose u (τ ++ (y ∷ [])) (suc y.place) x.place (omega arith) o
    ∙ outer x.place τ y (loose u) (ne_eqb x.place y.place (λ e. omega arith))
    ∙ inner lo σ x (except y.name (loose u)) h l f
    ∙ places_except x.name y.name (loose u)
    ∙ ap (cond (bytes_eq x.name y.name) []) (sym (occurs x.name u))

-- how often a binder outside is among the free variables
count_pairs : (b : ℕ) (σ : List Binder) (l : List Use) → count b (resolved σ l) ≡ length (owned b (pairs σ l))
count_pairs b σ [] = refl
count_pairs b σ (o ∷ l) = by (eqb b (binder_of o.1 σ o.0)) (count_pairs b σ l)
  where
    by : (c : Bool) → count b (resolved σ l) ≡ length (owned b (pairs σ l)) → cond c (suc (count b (resolved σ l))) (count b (resolved σ l)) ≡ length (cond c (o.0 ∷ owned b (pairs σ l)) (owned b (pairs σ l)))
    by true h = ap suc h
    by false h = h

count_owned : (t : Tree Name) (σ : List Binder) (lo b : ℕ) → Below lo σ → Ordered lo t → b < lo → count b (free (erase (resolve σ t))) ≡ length (owned b (uses (resolve σ t)))
count_owned t σ lo b h o l = ap (count b) (frees t σ lo h o) ∙ count_pairs b σ (loose t) ∙ ap length (sym (owned_loose t σ lo b l o))

pub lam_count : (σ : List Binder) (lo : ℕ) (x : Binder) (t : Tree Name) → Below lo σ → lo ≤ x.place → Ordered (suc x.place) t → count x.place (free (erase (resolve (σ ++ (x ∷ [])) t))) ≡ length (occurrences x.name t)
lam_count σ lo x t h l o = count_owned t (σ ++ (x ∷ [])) (suc x.place) x.place (below_more lo (suc x.place) σ x h (omega arith) (omega arith)) o (omega arith) ∙ ap length (owns σ lo x t h l o)

pub second-count : (σ : List Binder) (lo : ℕ) (x y : Binder) (u : Tree Name) → Below lo σ → lo ≤ x.place → x.place < y.place → Ordered (suc y.place) u → count y.place (free (erase (resolve (σ ++ (x ∷ y ∷ [])) u))) ≡ length (occurrences y.name u)
second-count σ lo x y u h l k o = count_owned u (σ ++ (x ∷ y ∷ [])) (suc y.place) y.place (below_two lo σ x y h l k) o (omega arith) ∙ ap length (owns_second σ lo x y u h l k o)

pub first_count : (σ : List Binder) (lo : ℕ) (x y : Binder) (u : Tree Name) → Below lo σ → lo ≤ x.place → x.place < y.place → Ordered (suc y.place) u → count x.place (free (erase (resolve (σ ++ (x ∷ y ∷ [])) u))) ≡ length (cond (bytes_eq x.name y.name) [] (occurrences x.name u))
first_count σ lo x y u h l k o = count_owned u (σ ++ (x ∷ y ∷ [])) (suc y.place) x.place (below_two lo σ x y h l k) o (omega arith) ∙ ap length (owns_first σ lo x y u h l k o)

-- a place of no binder in force
abbrev Apart : ℕ → List Binder → Type 0
Apart b [] = Unit {0}
Apart b (x ∷ σ) = (b ≡ x.place → ⊥) × Apart b σ

apart_more : (b : ℕ) (σ : List Binder) (x : Binder) → Apart b σ → (b ≡ x.place → ⊥) → Apart b (σ ++ (x ∷ []))
apart_more b [] x h k = (k, tt)
apart_more b (y ∷ σ) x h k = (h.0, apart_more b σ x h.1 k)

below_apart : (b lo : ℕ) (σ : List Binder) → Below lo σ → lo ≤ b → Apart b σ
below_apart b lo [] h l = tt
below_apart b lo (x ∷ σ) h l = (λ e. let k = h.0 in omega arith, below_apart b lo σ h.1 l)

below_wider : (lo hi : ℕ) (σ : List Binder) → lo ≤ hi → Below lo σ → Below hi σ
below_wider lo hi [] l h = tt
below_wider lo hi (x ∷ σ) l h = (omega (arith, h.0), below_wider lo hi σ l h.1)

not_owner : (b : ℕ) (w : Name) (σ : List Binder) (p : ℕ) → Apart b σ → (b ≡ p → ⊥) → eqb b (binder_of w σ p) ≡ false
not_owner b w [] p h k = ne_eqb b p k
not_owner b w (x ∷ σ) p h k = by (bytes_eq w x.name) (not_owner b w σ x.place h.1 h.0) (not_owner b w σ p h.1 k)
  where
    by : (c : Bool) → eqb b (binder_of w σ x.place) ≡ false → eqb b (binder_of w σ p) ≡ false → eqb b (binder_of w σ (cond c x.place p)) ≡ false
    by true m n = m
    by false m n = n

-- a binder has no occurrence in a term apart from it
nothing_owned : (t : Tree Name) (σ : List Binder) (lo hi b : ℕ) → Spans lo hi t → Apart b σ → (b < lo) ⊎ (hi ≤ b) → owned b (uses (resolve σ t)) ≡ []
nothing_owned (occ p w) σ lo hi b s a k = rw (not_owner b w σ p a (λ e. let l = s.0 in let m = s.1 in omega arith)) refl
nothing_owned (num p n) σ lo hi b s a k = refl
nothing_owned (succ p t) σ lo hi b s a k = nothing_owned t σ lo hi b s a k
nothing_owned (lam p x T t) σ lo hi b s a k =
    let u = spans_up t (suc x.place) hi s.1 in
    let l = s.0 in
    nothing_owned t (σ ++ (x ∷ [])) (suc x.place) hi b s.1 (apart_more b σ x a (λ e. omega arith)) (grind arith)
nothing_owned (app p t u) σ lo hi b (m, s, r) a k =
    let i = spans_up t lo m s in
    let j = spans_up u m hi r in
    owned_append b (uses (resolve σ t)) (uses (resolve σ u)) ∙ (rw (nothing_owned t σ lo m b s a (grind arith), nothing_owned u σ m hi b r a (grind arith)) refl)
nothing_owned (pair p t u) σ lo hi b (m, s, r) a k =
    let i = spans_up t lo m s in
    let j = spans_up u m hi r in
    owned_append b (uses (resolve σ t)) (uses (resolve σ u)) ∙ (rw (nothing_owned t σ lo m b s a (grind arith), nothing_owned u σ m hi b r a (grind arith)) refl)
nothing_owned (split p x y t u) σ lo hi b (m, l, n, s, r) a k =
    let i = spans_up t (suc y.place) m s in
    let j = spans_up u m hi r in
    let τ : Apart b (σ ++ (x ∷ y ∷ [])) = subst (Apart b) (sym (two_more σ x y)) (apart_more b (σ ++ (x ∷ [])) y (apart_more b σ x a (λ e. omega arith)) (λ e. omega arith)) in
    owned_append b (uses (resolve σ t)) (uses (resolve (σ ++ (x ∷ y ∷ [])) u)) ∙ (rw (nothing_owned t σ (suc y.place) m b s a (grind arith), nothing_owned u (σ ++ (x ∷ y ∷ [])) m hi b r τ (grind arith)) refl)
nothing_owned (iter p t u v) σ lo hi b (m, n, s, r, q) a k =
    let i = spans_up t lo m s in
    let j = spans_up u m n r in
    let h = spans_up v n hi q in
    owned_append b (uses (resolve σ t)) (uses (resolve σ u) ++ uses (resolve σ v)) ∙ (rw (nothing_owned t σ lo m b s a (grind arith), owned_append b (uses (resolve σ u)) (uses (resolve σ v)), nothing_owned u σ m n b r a (grind arith), nothing_owned v σ n hi b q a (grind arith)) refl)

-- binders with places from lo on and below hi
abbrev Ranged : ℕ → ℕ → List Binder → Type 0
Ranged lo hi [] = Unit {0}
Ranged lo hi (x ∷ xs) = (lo ≤ x.place) × (x.place < hi) × Ranged lo hi xs

ranged_wider : (lo hi a b : ℕ) (xs : List Binder) → a ≤ lo → hi ≤ b → Ranged lo hi xs → Ranged a b xs
ranged_wider lo hi a b [] l k h = tt
ranged_wider lo hi a b (x ∷ xs) l k h = (omega (arith, h.0), omega (arith, h.1), ranged_wider lo hi a b xs l k h.2)

ranged_append : (lo hi : ℕ) (xs ys : List Binder) → Ranged lo hi xs → Ranged lo hi ys → Ranged lo hi (xs ++ ys)
ranged_append lo hi [] ys h k = k
ranged_append lo hi (x ∷ xs) ys h k = (h.0, h.1, ranged_append lo hi xs ys h.2 k)

ranged_two : (lo m hi : ℕ) (xs ys : List Binder) → lo ≤ m → m ≤ hi → Ranged lo m xs → Ranged m hi ys → Ranged lo hi (xs ++ ys)
ranged_two lo m hi xs ys l k h j = ranged_append lo hi xs ys (ranged_wider lo m lo hi xs (omega arith) k h) (ranged_wider m hi lo hi ys l (omega arith) j)

ranged : (t : Tree Name) (lo hi : ℕ) → Spans lo hi t → Ranged lo hi (binders t)
ranged (occ p w) lo hi s = tt
ranged (num p n) lo hi s = tt
ranged (succ p t) lo hi s = ranged t lo hi s
ranged (lam p x T t) lo hi s =
    (s.0, spans_up t (suc x.place) hi s.1, ranged_wider (suc x.place) hi lo hi (binders t) (omega (arith, s.0)) (omega arith) (ranged t (suc x.place) hi s.1))
ranged (app p t u) lo hi (m, s, r) = ranged_two lo m hi (binders t) (binders u) (spans_up t lo m s) (spans_up u m hi r) (ranged t lo m s) (ranged u m hi r)
ranged (pair p t u) lo hi (m, s, r) = ranged_two lo m hi (binders t) (binders u) (spans_up t lo m s) (spans_up u m hi r) (ranged t lo m s) (ranged u m hi r)
ranged (split p x y t u) lo hi (m, l, k, s, r) =
    let i = spans_up t (suc y.place) m s in
    let j = spans_up u m hi r in
    (l, omega arith, (omega arith, omega arith, ranged_two lo m hi (binders t) (binders u) (omega arith) j (ranged_wider (suc y.place) m lo m (binders t) (omega arith) (omega arith) (ranged t (suc y.place) m s)) (ranged u m hi r)))
ranged (iter p t u v) lo hi (m, n, s, r, q) =
    let i = spans_up t lo m s in
    let j = spans_up u m n r in
    let h = spans_up v n hi q in
    ranged_two lo m hi (binders t) (binders u ++ binders v) i (omega arith) (ranged t lo m s) (ranged_two m n hi (binders u) (binders v) j h (ranged u m n r) (ranged v n hi q))

-- each binder with the occurrences that it has
abbrev pub faults_of : List Binder → List (ℕ × ℕ) → List Refusal
faults_of [] l = []
faults_of (x ∷ xs) l = used_once x (owned x.place l) ++ faults_of xs l

faults_append : (xs ys : List Binder) (l : List (ℕ × ℕ)) → faults_of (xs ++ ys) l ≡ faults_of xs l ++ faults_of ys l
faults_append [] ys l = refl
faults_append (x ∷ xs) ys l = ap (λ z. used_once x (owned x.place l) ++ z) (faults_append xs ys l) ∙ sym (append_assoc (used_once x (owned x.place l)) (faults_of xs l) (faults_of ys l))

faults_left : (lo hi : ℕ) (xs : List Binder) (k l : List (ℕ × ℕ)) → Ranged lo hi xs → ((b : ℕ) → lo ≤ b → b < hi → owned b l ≡ []) → faults_of xs (k ++ l) ≡ faults_of xs k
faults_left lo hi [] k l h n = refl
faults_left lo hi (x ∷ xs) k l h n =
    let e : owned x.place (k ++ l) ≡ owned x.place k = owned_append x.place k l ∙ ap (λ z. owned x.place k ++ z) (n x.place h.0 h.1) ∙ append-nil (owned x.place k) in
    ap (λ z. used_once x z ++ faults_of xs (k ++ l)) e ∙ ap (λ z. used_once x (owned x.place k) ++ z) (faults_left lo hi xs k l h.2 n)

faults_right : (lo hi : ℕ) (xs : List Binder) (k l : List (ℕ × ℕ)) → Ranged lo hi xs → ((b : ℕ) → lo ≤ b → b < hi → owned b k ≡ []) → faults_of xs (k ++ l) ≡ faults_of xs l
faults_right lo hi [] k l h n = refl
faults_right lo hi (x ∷ xs) k l h n =
    let e : owned x.place (k ++ l) ≡ owned x.place l = owned_append x.place k l ∙ ap (λ z. z ++ owned x.place l) (n x.place h.0 h.1) in
    ap (λ z. used_once x z ++ faults_of xs (k ++ l)) e ∙ ap (λ z. used_once x (owned x.place l) ++ z) (faults_right lo hi xs k l h.2 n)

-- two parts side by side, the binders of each without an occurrence in the other
faults_two : (lo m hi : ℕ) (xs ys : List Binder) (k l : List (ℕ × ℕ)) (a b : List Refusal) → Ranged lo m xs → Ranged m hi ys → ((c : ℕ) → lo ≤ c → c < m → owned c l ≡ []) → ((c : ℕ) → m ≤ c → c < hi → owned c k ≡ []) → a ≡ faults_of xs k → b ≡ faults_of ys l → a ++ b ≡ faults_of (xs ++ ys) (k ++ l)
faults_two lo m hi xs ys k l a b r q f g x y =
    ap (λ z. z ++ b) (x ∙ sym (faults_left lo m xs k l r f)) ∙ ap (λ z. faults_of xs (k ++ l) ++ z) (y ∙ sym (faults_right m hi ys k l q g)) ∙ sym (faults_append xs ys (k ++ l))

-- binders that are misused, by the occurrences that they have
pub misused_is : (t : Tree Name) (σ : List Binder) (lo hi : ℕ) → Below lo σ → Spans lo hi t → misused t ≡ faults_of (binders t) (uses (resolve σ t))
misused_is (occ p w) σ lo hi h s = refl
misused_is (num p n) σ lo hi h s = refl
misused_is (succ p t) σ lo hi h s = misused_is t σ lo hi h s
misused_is (lam p x T t) σ lo hi h s =
    let l = uses (resolve (σ ++ (x ∷ [])) t) in
    let e = owns σ lo x t h s.0 (spans_ordered t (suc x.place) hi s.1) in
    ap (λ z. used_once x z ++ misused t) (sym e) ∙ ap (λ z. used_once x (owned x.place l) ++ z) (misused_is t (σ ++ (x ∷ [])) (suc x.place) hi (below_more lo (suc x.place) σ x h (omega (arith, s.0)) (omega arith)) s.1)
misused_is (app p t u) σ lo hi h (m, s, r) =
    let i = spans_up t lo m s in
    faults_two lo m hi (binders t) (binders u) (uses (resolve σ t)) (uses (resolve σ u)) (misused t) (misused u) (ranged t lo m s) (ranged u m hi r)
    (λ c x y. nothing_owned u σ m hi c r (below_apart c lo σ h x) (inl y)) (λ c x y. nothing_owned t σ lo m c s (below_apart c lo σ h (omega arith)) (inr x))
    (misused_is t σ lo m h s) (misused_is u σ m hi (below_wider lo m σ i h) r)
misused_is (pair p t u) σ lo hi h (m, s, r) =
    let i = spans_up t lo m s in
    faults_two lo m hi (binders t) (binders u) (uses (resolve σ t)) (uses (resolve σ u)) (misused t) (misused u) (ranged t lo m s) (ranged u m hi r)
    (λ c x y. nothing_owned u σ m hi c r (below_apart c lo σ h x) (inl y)) (λ c x y. nothing_owned t σ lo m c s (below_apart c lo σ h (omega arith)) (inr x))
    (misused_is t σ lo m h s) (misused_is u σ m hi (below_wider lo m σ i h) r)
misused_is (split p x y t u) σ lo hi h (m, l, k, s, r) =
    let n = suc y.place in
    let τ = σ ++ (x ∷ y ∷ []) in
    let i = spans_up t n m s in
    let j = spans_up u m hi r in
    let a = uses (resolve σ t) in
    let c = uses (resolve τ u) in
    let hn = below_wider lo n σ (omega arith) h in
    let τn = below_two lo σ x y h l k in
    let o = lower u m hi n i r in
    let first : owned x.place (a ++ c) ≡ cond (bytes_eq x.name y.name) [] (occurrences x.name u) =
    owned_append x.place a c ∙ ap (λ z. z ++ owned x.place c) (nothing_owned t σ n m x.place s (below_apart x.place lo σ h l) (inl (omega arith))) ∙ owns_first σ lo x y u h l k o in
    let second : owned y.place (a ++ c) ≡ occurrences y.name u =
    owned_append y.place a c ∙ ap (λ z. z ++ owned y.place c) (nothing_owned t σ n m y.place s (below_apart y.place lo σ h (omega arith)) (inl (omega arith))) ∙ owns_second σ lo x y u h l k o in
    let rest = faults_two n m hi (binders t) (binders u) a c (misused t) (misused u) (ranged t n m s) (ranged u m hi r)
    (λ d v w. nothing_owned u τ m hi d r (below_apart d n τ τn v) (inl w)) (λ d v w. nothing_owned t σ n m d s (below_apart d lo σ h (omega arith)) (inr v))
    (misused_is t σ n m hn s) (misused_is u τ m hi (below_wider n m τ i τn) r) in
    ap (λ z. used_once x z ++ (used_once y (occurrences y.name u) ++ (misused t ++ misused u))) (sym first)
    ∙ ap (λ z. used_once x (owned x.place (a ++ c)) ++ (used_once y z ++ (misused t ++ misused u))) (sym second)
    ∙ ap (λ z. used_once x (owned x.place (a ++ c)) ++ (used_once y (owned y.place (a ++ c)) ++ z)) rest
misused_is (iter p t u v) σ lo hi h (m, n, s, r, q) =
    let i = spans_up t lo m s in
    let j = spans_up u m n r in
    let e = spans_up v n hi q in
    let a = uses (resolve σ t) in
    let b = uses (resolve σ u) in
    let c = uses (resolve σ v) in
    let later : (d : ℕ) → lo ≤ d → d < m → owned d (b ++ c) ≡ [] = λ d x y. owned_append d b c ∙ (rw (nothing_owned u σ m n d r (below_apart d lo σ h x) (inl y), nothing_owned v σ n hi d q (below_apart d lo σ h x) (inl (omega arith))) refl) in
    let two = faults_two m n hi (binders u) (binders v) b c (misused u) (misused v) (ranged u m n r) (ranged v n hi q)
    (λ d x y. nothing_owned v σ n hi d q (below_apart d lo σ h (omega arith)) (inl y)) (λ d x y. nothing_owned u σ m n d r (below_apart d lo σ h (omega arith)) (inr x))
    (misused_is u σ m n (below_wider lo m σ i h) r) (misused_is v σ n hi (below_wider lo n σ (omega arith) h) q) in
    faults_two lo m hi (binders t) (binders u ++ binders v) a (b ++ c) (misused t) (misused u ++ misused v) (ranged t lo m s) (ranged_two m n hi (binders u) (binders v) j e (ranged u m n r) (ranged v n hi q))
    later (λ d x y. nothing_owned t σ lo m d s (below_apart d lo σ h (omega arith)) (inr x)) (misused_is t σ lo m h s) two

-- does a binder in force have the name w?
abbrev has : Name → List Binder → Bool
has w [] = false
has w (x ∷ σ) = bytes_eq w x.name || has w σ

swap : (a b c : Bool) → (a || (b || c)) ≡ (b || (a || c))
swap true true c = refl
swap true false c = refl
swap false true c = refl
swap false false c = refl

has_more : (w : Name) (σ : List Binder) (x : Binder) → has w (σ ++ (x ∷ [])) ≡ (bytes_eq w x.name || has w σ)
has_more w [] x = refl
has_more w (y ∷ σ) x = ap (λ z. bytes_eq w y.name || z) (has_more w σ x) ∙ swap (bytes_eq w y.name) (bytes_eq w x.name) (has w σ)

-- an occurrence is its own binder exactly where no binder in force has its name
no_binder : (w : Name) (σ : List Binder) (p : ℕ) → has w σ ≡ false → binder_of w σ p ≡ p
no_binder w [] p h = refl
no_binder w (x ∷ σ) p h = let a = or_parts (bytes_eq w x.name) (has w σ) h in rw a.0 (no_binder w σ p a.1)

some_binder : (w : Name) (σ : List Binder) (lo p : ℕ) → Below lo σ → (has w σ ≡ true) ⊎ (p < lo) → binder_of w σ p < lo
some_binder w [] lo p h (inl k) = let z : ◌≡◌ {A = ℕ} 0 1 = cc in absurd (omega arith)
some_binder w [] lo p h (inr k) = k
some_binder w (x ∷ σ) lo p h k = by (bytes_eq w x.name) k (some_binder w σ lo x.place h.1 (inr h.0)) (some_binder w σ lo p h.1)
  where
    by : (c : Bool) → ((c || has w σ) ≡ true) ⊎ (p < lo) → binder_of w σ x.place < lo → ((has w σ ≡ true) ⊎ (p < lo) → binder_of w σ p < lo) → binder_of w σ (cond c x.place p) < lo
    by true m i j = i
    by false m i j = j m

self_owned : (w : Name) (σ : List Binder) (lo p : ℕ) → Below lo σ → lo ≤ p → eqb p (binder_of w σ p) ≡ not (has w σ)
self_owned w σ lo p h l = by (has w σ) refl
  where
    by : (c : Bool) → has w σ ≡ c → eqb p (binder_of w σ p) ≡ not c
    by true e = ne_eqb p (binder_of w σ p) (λ q. let k = some_binder w σ lo p h (inl e) in omega arith)
    by false e = eq-eqb p (binder_of w σ p) (sym (no_binder w σ p e))

-- the occurrences that are their own binders
abbrev pub orphans : List (ℕ × ℕ) → List Refusal
orphans [] = []
orphans (o ∷ l) = cond (eqb o.0 o.1) (fault Unbound o.0 ∷ orphans l) (orphans l)

orphans_append : (k l : List (ℕ × ℕ)) → orphans (k ++ l) ≡ orphans k ++ orphans l
orphans_append [] l = refl
orphans_append (o ∷ k) l = by (eqb o.0 o.1) (orphans_append k l)
  where
    by : (c : Bool) → orphans (k ++ l) ≡ orphans k ++ orphans l → cond c (fault Unbound o.0 ∷ orphans (k ++ l)) (orphans (k ++ l)) ≡ cond c (fault Unbound o.0 ∷ orphans k) (orphans k) ++ orphans l
    by true h = ap (λ z. fault Unbound o.0 ∷ z) h
    by false h = h

two_orphans : (k l : List (ℕ × ℕ)) (a b : List Refusal) → a ≡ orphans k → b ≡ orphans l → a ++ b ≡ orphans (k ++ l)
two_orphans k l a b x y = ap (λ z. z ++ b) x ∙ ap (λ z. orphans k ++ z) y ∙ sym (orphans_append k l)

unbound_use : (p : ℕ) (c : Bool) → cond c [] (fault Unbound p ∷ []) ≡ cond (not c) (fault Unbound p ∷ []) []
unbound_use p true = refl
unbound_use p false = refl

pub unbound_is : (t : Tree Name) (σ : List Binder) (ns : List Name) (lo : ℕ) → Below lo σ → Ordered lo t → ((w : Name) → among w ns ≡ has w σ) → unbound ns t ≡ orphans (uses (resolve σ t))
unbound_is (occ p w) σ ns lo h o e = unbound_use p (among w ns) ∙ ap (λ c. cond (not c) (fault Unbound p ∷ []) []) (e w) ∙ ap (λ c. cond c (fault Unbound p ∷ []) []) (sym (self_owned w σ lo p h o))
unbound_is (num p n) σ ns lo h o e = refl
unbound_is (succ p t) σ ns lo h o e = unbound_is t σ ns lo h o e
unbound_is (lam p x T t) σ ns lo h o e =
    unbound_is t (σ ++ (x ∷ [])) (x.name ∷ ns) (suc x.place) (below_more lo (suc x.place) σ x h (omega (arith, o.0)) (omega arith)) o.1 (λ w. ap (λ z. bytes_eq w x.name || z) (e w) ∙ sym (has_more w σ x))
unbound_is (app p t u) σ ns lo h o e = two_orphans (uses (resolve σ t)) (uses (resolve σ u)) _ _ (unbound_is t σ ns lo h o.0 e) (unbound_is u σ ns lo h o.1 e)
unbound_is (pair p t u) σ ns lo h o e = two_orphans (uses (resolve σ t)) (uses (resolve σ u)) _ _ (unbound_is t σ ns lo h o.0 e) (unbound_is u σ ns lo h o.1 e)
unbound_is (split p x y t u) σ ns lo h o e =
    let both : (w : Name) → among w (x.name ∷ y.name ∷ ns) ≡ has w (σ ++ (x ∷ y ∷ [])) = λ w.
    ap (λ z. bytes_eq w x.name || (bytes_eq w y.name || z)) (e w) ∙ swap (bytes_eq w x.name) (bytes_eq w y.name) (has w σ)
    ∙ sym (ap (has w) (two_more σ x y) ∙ has_more w (σ ++ (x ∷ [])) y ∙ ap (λ z. bytes_eq w y.name || z) (has_more w σ x)) in
    two_orphans (uses (resolve σ t)) (uses (resolve (σ ++ (x ∷ y ∷ [])) u)) _ _ (unbound_is t σ ns lo h o.2 e) (unbound_is u (σ ++ (x ∷ y ∷ [])) (x.name ∷ y.name ∷ ns) (suc y.place) (below_two lo σ x y h o.0 o.1) o.3 both)
unbound_is (iter p t u v) σ ns lo h o e = two_orphans (uses (resolve σ t)) (uses (resolve σ u) ++ uses (resolve σ v)) _ _ (unbound_is t σ ns lo h o.0 e) (two_orphans (uses (resolve σ u)) (uses (resolve σ v)) _ _ (unbound_is u σ ns lo h o.1 e) (unbound_is v σ ns lo h o.2 e))

-- The faults that are listed for names are the faults of names.
use Rattle.std.proofs.Common.{◌≡◌, ℕ, Bool, true, false, cond, eqb, ◌⊎◌, ◌↔◌, List, [], ◌∷◌, ◌++◌, map, sym, refl, ap, ◌∙◌, subst, inl, inr, arith}
use mathlib.Core.List.Memᴰ
use mathlib.Core.List.{Memᴰ}
use Rattle.std.proofs.lemmas.Bool.{eq-eqb, eqb-true, or_cases, or_left, or_right, both_ways}
use Rattle.std.specs.Str.{bytes_eq}
use Rattle.syntax.specs.declared.refusal.Fault.TheVariants.{Unbound, BoundTwice, UsedTwice, Unused}
use Rattle.syntax.specs.declared.refusal.Refusal.{Refusal}
use Rattle.syntax.specs.Trees.{Name, Binder, Tree}
use Rattle.syntax.specs.Names.{resolve, among, fault, unbound, binders, bound_twice, used_once, misused, name_faults}
use Rattle.grammar.specs.Naming.{uses, NameFault, without_binder, name_taken, second_use, no_use}
use Rattle.grammar.proofs.Places.{Spans, spans_ordered}
use Rattle.grammar.proofs.Names.{same_is, same_self}
use Rattle.grammar.proofs.Owners.{owned, owned_append, faults_of, misused_is, orphans, unbound_is}

-- what stands in one of two lists
into_left : {A : Type 0} {a : A} {k : List A} (l : List A) → Memᴰ a k → Memᴰ a (k ++ l)
into_left l (Memᴰ.head e) = Memᴰ.head e
into_left l (Memᴰ.tail m) = Memᴰ.tail (into_left l m)

into_right : {A : Type 0} {a : A} (k : List A) {l : List A} → Memᴰ a l → Memᴰ a (k ++ l)
into_right [] m = m
into_right (x ∷ k) m = Memᴰ.tail (into_right k m)

-- occurrences without a binder
orphan_is : (l : List (ℕ × ℕ)) (f : Refusal) → Memᴰ f (orphans l) → (p : ℕ) × Memᴰ (p, p) l × (fault Unbound p ≡ f)
orphan_is [] f m = elim m [ ]
orphan_is (o ∷ l) f m = by (eqb o.0 o.1) refl m (orphan_is l f)
  where
    by : (c : Bool) → eqb o.0 o.1 ≡ c → Memᴰ f (cond c (fault Unbound o.0 ∷ orphans l) (orphans l)) → (Memᴰ f (orphans l) → (p : ℕ) × Memᴰ (p, p) l × (fault Unbound p ≡ f)) → (p : ℕ) × Memᴰ (p, p) (o ∷ l) × (fault Unbound p ≡ f)
    by true e n i = elim (Memᴰ.cases_cons n) [
      | inl h ↦ (o.0, Memᴰ.head (ap (λ b. (o.0, b)) (eqb-true o.0 o.1 e)), sym h)
      | inr h ↦ (let r = i h in (r.0, Memᴰ.tail r.1, r.2))
    ]
    by false e n i = let r = i n in (r.0, Memᴰ.tail r.1, r.2)

orphan_of : (l : List (ℕ × ℕ)) (p : ℕ) → Memᴰ (p, p) l → Memᴰ (fault Unbound p) (orphans l)
orphan_of [] p m = elim m [ ]
orphan_of (o ∷ l) p m = elim (Memᴰ.cases_cons m) [
  | inl h ↦ subst (λ z. Memᴰ (fault Unbound p) (orphans (z ∷ l))) h (rw (eq-eqb p p refl) (Memᴰ.head refl))
  | inr h ↦ by (eqb o.0 o.1) (orphan_of l p h)
]
  where
    by : (c : Bool) → Memᴰ (fault Unbound p) (orphans l) → Memᴰ (fault Unbound p) (cond c (fault Unbound o.0 ∷ orphans l) (orphans l))
    by true n = Memᴰ.tail n
    by false n = n

-- an occurrence of the binder at b, cut out of the text
record Cut (b : ℕ) (l : List (ℕ × ℕ)) (p : ℕ) : Type 0 where
  pub front : List (ℕ × ℕ)
  pub rest : List (ℕ × ℕ)
  pub is : l ≡ front ++ ((p, b) ∷ rest)

cut_cons : (b : ℕ) (o : ℕ × ℕ) (l : List (ℕ × ℕ)) (p : ℕ) → Cut b l p → Cut b (o ∷ l) p
cut_cons b o l p c = record { front = o ∷ c.front; rest = c.rest; is = ap (λ z. o ∷ z) c.is }

its_own : (b : ℕ) (o : ℕ × ℕ) → eqb b o.1 ≡ true → o ≡ (o.0, b)
its_own b o e = ap (λ z. (o.0, z)) (sym (eqb-true b o.1 e))

owned_cut : (b : ℕ) (l : List (ℕ × ℕ)) (p : ℕ) → Memᴰ p (owned b l) → Cut b l p
owned_cut b [] p m = elim m [ ]
owned_cut b (o ∷ l) p m = by (eqb b o.1) refl m (owned_cut b l p)
  where
    by : (c : Bool) → eqb b o.1 ≡ c → Memᴰ p (cond c (o.0 ∷ owned b l) (owned b l)) → (Memᴰ p (owned b l) → Cut b l p) → Cut b (o ∷ l) p
    by true e n i = elim (Memᴰ.cases_cons n) [
      | inl h ↦ record { front = []; rest = l; is = ap (λ z. z ∷ l) (its_own b o e ∙ ap (λ z. (z, b)) (sym h)) }
      | inr h ↦ cut_cons b o l p (i h)
    ]
    by false e n i = cut_cons b o l p (i n)

owned_here : (b p : ℕ) (l : List (ℕ × ℕ)) → owned b ((p, b) ∷ l) ≡ p ∷ owned b l
owned_here b p l = rw (eq-eqb b b refl) refl

owned_of : (b p : ℕ) (l : List (ℕ × ℕ)) → Memᴰ (p, b) l → Memᴰ p (owned b l)
owned_of b p [] m = elim m [ ]
owned_of b p (o ∷ l) m = elim (Memᴰ.cases_cons m) [
  | inl h ↦ subst (λ z. Memᴰ p (owned b (z ∷ l))) h (subst (Memᴰ p) (sym (owned_here b p l)) (Memᴰ.head refl))
  | inr h ↦ by (eqb b o.1) (owned_of b p l h)
]
  where
    by : (c : Bool) → Memᴰ p (owned b l) → Memᴰ p (cond c (o.0 ∷ owned b l) (owned b l))
    by true n = Memᴰ.tail n
    by false n = n

-- an occurrence after another of the same binder
record Second (b : ℕ) (l : List (ℕ × ℕ)) (p : ℕ) : Type 0 where
  pub front : List (ℕ × ℕ)
  pub rest : List (ℕ × ℕ)
  pub is : l ≡ front ++ ((p, b) ∷ rest)
  pub earlier : ℕ
  pub before : Memᴰ (earlier, b) front

second_of : (b : ℕ) (l : List (ℕ × ℕ)) (q : ℕ) (ps : List ℕ) (p : ℕ) → owned b l ≡ q ∷ ps → Memᴰ p ps → Second b l p
second_of b [] q ps p e m = let z : ◌≡◌ {A = ℕ} 0 1 = cc in absurd (omega arith)
second_of b (o ∷ l) q ps p e m = by (eqb b o.1) refl e (λ k. second_of b l q ps p k m)
  where
    by : (c : Bool) → eqb b o.1 ≡ c → cond c (o.0 ∷ owned b l) (owned b l) ≡ q ∷ ps → (owned b l ≡ q ∷ ps → Second b l p) → Second b (o ∷ l) p
    by true h k i =
        let s : owned b l ≡ ps = cc in
        let c = owned_cut b l p (subst (Memᴰ p) (sym s) m) in
        record { front = o ∷ c.front; rest = c.rest; is = ap (λ z. o ∷ z) c.is; earlier = o.0; before = Memᴰ.head (sym (its_own b o h)) }
    by false h k i = let s = i k in record { front = o ∷ s.front; rest = s.rest; is = ap (λ z. o ∷ z) s.is; earlier = s.earlier; before = Memᴰ.tail s.before }

twice : (x : Binder) (b : ℕ) (l front rest : List (ℕ × ℕ)) (p q : ℕ) → l ≡ front ++ ((p, b) ∷ rest) → Memᴰ (q, b) front → Memᴰ (fault UsedTwice p) (used_once x (owned b l))
twice x b l front rest p q e m =
    subst (λ z. Memᴰ (fault UsedTwice p) (used_once x z)) (sym (ap (owned b) e ∙ owned_append b front ((p, b) ∷ rest) ∙ ap (λ z. owned b front ++ z) (owned_here b p rest))) (by (owned b front) (owned_of b q front m))
  where
    mapped : (ps qs : List ℕ) → Memᴰ (fault UsedTwice p) (map (fault UsedTwice) (ps ++ (p ∷ qs)))
    mapped [] qs = Memᴰ.head refl
    mapped (r ∷ ps) qs = Memᴰ.tail (mapped ps qs)

    by : (ps : List ℕ) → Memᴰ q ps → Memᴰ (fault UsedTwice p) (used_once x (ps ++ (p ∷ owned b rest)))
    by [] n = elim n [ ]
    by (r ∷ ps) n = mapped ps (owned b rest)

-- a binder that is misused
Misuse : Binder → List (ℕ × ℕ) → Refusal → Type 0
Misuse x l f = ((fault Unused x.place ≡ f) × ((p : ℕ) → Memᴰ (p, x.place) l → ⊥)) ⊎ ((p : ℕ) × (fault UsedTwice p ≡ f) × Second x.place l p)

map_is : (ps : List ℕ) (f : Refusal) → Memᴰ f (map (fault UsedTwice) ps) → (p : ℕ) × (fault UsedTwice p ≡ f) × Memᴰ p ps
map_is [] f m = elim m [ ]
map_is (q ∷ ps) f m = elim (Memᴰ.cases_cons m) [ inl h ↦ (q, sym h, Memᴰ.head refl) | inr h ↦ (let r = map_is ps f h in (r.0, r.1, Memᴰ.tail r.2)) ]

misuse_is : (x : Binder) (l : List (ℕ × ℕ)) (f : Refusal) → Memᴰ f (used_once x (owned x.place l)) → Misuse x l f
unfolding Misuse
misuse_is x l f m = by (owned x.place l) refl m
  where
    by : (ps : List ℕ) → owned x.place l ≡ ps → Memᴰ f (used_once x ps) → ((fault Unused x.place ≡ f) × ((p : ℕ) → Memᴰ (p, x.place) l → ⊥)) ⊎ ((p : ℕ) × (fault UsedTwice p ≡ f) × Second x.place l p)
    by [] e n = elim (Memᴰ.cases_cons n) [ inl h ↦ inl (sym h, λ p k. elim (subst (Memᴰ p) e (owned_of x.place p l k)) [ ]) | inr h ↦ elim h [ ] ]
    by (q ∷ ps) e n = let r = map_is ps f n in inr (r.0, r.1, second_of x.place l q ps r.0 e r.2)

unused_of : (x : Binder) (l : List (ℕ × ℕ)) → ((p : ℕ) → Memᴰ (p, x.place) l → ⊥) → Memᴰ (fault Unused x.place) (used_once x (owned x.place l))
unused_of x l n = by (owned x.place l) refl
  where
    by : (ps : List ℕ) → owned x.place l ≡ ps → Memᴰ (fault Unused x.place) (used_once x ps)
    by [] e = Memᴰ.head refl
    by (q ∷ ps) e =
        let c = owned_cut x.place l q (subst (Memᴰ q) (sym e) (Memᴰ.head refl)) in
        absurd (n q (subst (Memᴰ (q, x.place)) (sym c.is) (into_right c.front (Memᴰ.head refl))))

faults_is : (xs : List Binder) (l : List (ℕ × ℕ)) (f : Refusal) → Memᴰ f (faults_of xs l) → (x : Binder) × Memᴰ x xs × Memᴰ f (used_once x (owned x.place l))
faults_is [] l f m = elim m [ ]
faults_is (x ∷ xs) l f m = elim (Memᴰ.append_cases (used_once x (owned x.place l)) m) [ inl h ↦ (x, Memᴰ.head refl, h) | inr h ↦ (let r = faults_is xs l f h in (r.0, Memᴰ.tail r.1, r.2)) ]

faults_of_lem : (xs : List Binder) (l : List (ℕ × ℕ)) (f : Refusal) (x : Binder) → Memᴰ x xs → Memᴰ f (used_once x (owned x.place l)) → Memᴰ f (faults_of xs l)
faults_of_lem [] l f x m n = elim m [ ]
faults_of_lem (y ∷ xs) l f x m n = elim (Memᴰ.cases_cons m) [
  | inl h ↦ into_left (faults_of xs l) (subst (λ z. Memᴰ f (used_once z (owned z.place l))) h n)
  | inr h ↦ into_right (used_once y (owned y.place l)) (faults_of_lem xs l f x h n)
]

-- a name that was taken before: among these names, or by an earlier binder
Taken : List Name → List Binder → Binder → Type 0
Taken ns front x = (among x.name ns ≡ true) ⊎ ((y : Binder) × Memᴰ y front × (y.name ≡ x.name))

record Rebound (ns : List Name) (xs : List Binder) (f : Refusal) : Type 0 where
  pub front : List Binder
  pub rest : List Binder
  pub binder : Binder
  pub is : xs ≡ front ++ (binder ∷ rest)
  pub taken : Taken ns front binder
  pub same : fault BoundTwice binder.place ≡ f

rebound_is : (xs : List Binder) (ns : List Name) (f : Refusal) → Memᴰ f (bound_twice ns xs) → Rebound ns xs f
unfolding Taken
rebound_is [] ns f m = elim m [ ]
rebound_is (x ∷ xs) ns f m = by (among x.name ns) refl m (rebound_is xs (x.name ∷ ns) f)
  where
    later : Rebound (x.name ∷ ns) xs f → Rebound ns (x ∷ xs) f
    later r = record {
      front = x ∷ r.front;
      rest = r.rest;
      binder = r.binder;
      is = ap (λ z. x ∷ z) r.is;
      same = r.same;
      taken = elim r.taken [
        | inl h ↦ elim (or_cases (bytes_eq r.binder.name x.name) (among r.binder.name ns) h) [ inl k ↦ inr (x, Memᴰ.head refl, sym (same_is r.binder.name x.name k)) | inr k ↦ inl k ]
        | inr h ↦ inr (h.0, Memᴰ.tail h.1, h.2)
      ];
    }

    by : (c : Bool) → among x.name ns ≡ c → Memᴰ f (cond c (fault BoundTwice x.place ∷ bound_twice (x.name ∷ ns) xs) (bound_twice (x.name ∷ ns) xs)) → (Memᴰ f (bound_twice (x.name ∷ ns) xs) → Rebound (x.name ∷ ns) xs f) → Rebound ns (x ∷ xs) f
    by true e n i = elim (Memᴰ.cases_cons n) [ inl h ↦ record { front = []; rest = xs; binder = x; is = refl; taken = inl e; same = sym h } | inr h ↦ later (i h) ]
    by false e n i = later (i n)

rebound_of : (front rest : List Binder) (x : Binder) (ns : List Name) → Taken ns front x → Memᴰ (fault BoundTwice x.place) (bound_twice ns (front ++ (x ∷ rest)))
unfolding Taken
rebound_of [] rest x ns (inl h) = rw h (Memᴰ.head refl)
rebound_of [] rest x ns (inr h) = elim h.1 [ ]
rebound_of (z ∷ front) rest x ns t = by (among z.name ns) (rebound_of front rest x (z.name ∷ ns) (still t))
  where
    still : (among x.name ns ≡ true) ⊎ ((y : Binder) × Memᴰ y (z ∷ front) × (y.name ≡ x.name)) → (among x.name (z.name ∷ ns) ≡ true) ⊎ ((y : Binder) × Memᴰ y front × (y.name ≡ x.name))
    still (inl h) = inl (or_right (bytes_eq x.name z.name) (among x.name ns) h)
    still (inr (y, m, e)) = elim (Memᴰ.cases_cons m) [
      | inl h ↦ inl (or_left (bytes_eq x.name z.name) (among x.name ns) (subst (λ w. bytes_eq w z.name ≡ true) (ap (λ b. b.name) (sym h) ∙ e) (same_self z.name)))
      | inr h ↦ inr (y, h, e)
    ]

    by : (c : Bool) → Memᴰ (fault BoundTwice x.place) (bound_twice (z.name ∷ ns) (front ++ (x ∷ rest))) → Memᴰ (fault BoundTwice x.place) (cond c (fault BoundTwice z.place ∷ bound_twice (z.name ∷ ns) (front ++ (x ∷ rest))) (bound_twice (z.name ∷ ns) (front ++ (x ∷ rest))))
    by true n = Memᴰ.tail n
    by false n = n

-- the list of faults, and the faults
module _ (t : Tree Name) (hi : ℕ) (s : Spans 0 hi t) where
  abbrev all : List (ℕ × ℕ)
  all = uses (resolve [] t)

  unbound_all : unbound [] t ≡ orphans all
  unbound_all = unbound_is t [] [] 0 tt (spans_ordered t 0 hi s) (λ w. refl)

  misused_all : misused t ≡ faults_of (binders t) all
  misused_all = misused_is t [] 0 hi tt s

  taken_fault : (f : Refusal) → Rebound [] (binders t) f → NameFault t f
  unfolding Taken
  taken_fault f r = elim r.taken [ inl h ↦ absurd (both_ways false refl h) | inr (y, m, e) ↦ subst (NameFault t) r.same (name_taken r.front r.rest r.binder y r.is m e) ]

  misuse_fault : (f : Refusal) → (x : Binder) × Memᴰ x (binders t) × Memᴰ f (used_once x (owned x.place all)) → NameFault t f
  unfolding Misuse
  misuse_fault f (x, m, n) = elim (misuse_is x all f n) [
    | inl (e, h) ↦ subst (NameFault t) e (no_use x m h)
    | inr (p, e, h) ↦ subst (NameFault t) e (second_use h.front h.rest x p h.earlier m h.is h.before)
  ]

  listed_fault : (f : Refusal) → Memᴰ f (name_faults t) → NameFault t f
  listed_fault f m = elim (Memᴰ.append_cases (unbound [] t) m) [
    | inl h ↦ (let r = orphan_is all f (subst (Memᴰ f) unbound_all h) in subst (NameFault t) r.2 (without_binder r.1))
    | inr k ↦ elim (Memᴰ.append_cases (bound_twice [] (binders t)) k) [
      | inl h ↦ taken_fault f (rebound_is (binders t) [] f h)
      | inr h ↦ misuse_fault f (faults_is (binders t) all f (subst (Memᴰ f) misused_all h))
    ]
  ]

  in_misused : (f : Refusal) (x : Binder) → Memᴰ x (binders t) → Memᴰ f (used_once x (owned x.place all)) → Memᴰ f (name_faults t)
  in_misused f x m n = into_right (unbound [] t) (into_right (bound_twice [] (binders t)) (subst (Memᴰ f) (sym misused_all) (faults_of_lem (binders t) all f x m n)))

  fault_listed : (f : Refusal) → NameFault t f → Memᴰ f (name_faults t)
  unfolding Taken
  fault_listed f (without_binder {p = p} m) = into_left (bound_twice [] (binders t) ++ misused t) (subst (Memᴰ (fault Unbound p)) (sym unbound_all) (orphan_of all p m))
  fault_listed f (name_taken front rest x y e m n) = into_right (unbound [] t) (into_left (misused t) (subst (λ z. Memᴰ (fault BoundTwice x.place) (bound_twice [] z)) (sym e) (rebound_of front rest x [] (inr (y, m, n)))))
  fault_listed f (second_use front rest x p q m e n) = in_misused (fault UsedTwice p) x m (twice x x.place all front rest p q e n)
  fault_listed f (no_use x m n) = in_misused (fault Unused x.place) x m (unused_of x all n)

  pub listed : (f : Refusal) → Memᴰ f (name_faults t) ↔ NameFault t f
  listed f = (listed_fault f, fault_listed f)

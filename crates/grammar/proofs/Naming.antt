-- The faults of names: none exactly where names are used linearly, and the least one reported.
use Rattle.std.proofs.Common.{◌≡◌, ℕ, suc, ◌<◌, ◌≤◌, Bool, true, false, cond, eqb, ◌⊎◌, ◌↔◌, List, [], ◌∷◌, ◌++◌, length, Some, None, Option, sym, refl, ap, ◌∙◌, subst, inl, inr, arith}
use mathlib.Core.List.Memᴰ
use mathlib.Core.List.{Memᴰ}
use Rattle.std.proofs.lemmas.Bool.{ne_eqb, or_parts, or_from, cases_Bool, both_ways}
use Rattle.std.proofs.lemmas.Bool.Decides.{nat_tests}
use Rattle.std.specs.Str.{bytes_eq}
use Rattle.calculus.specs.Terms.{free}
use Rattle.syntax.specs.declared.refusal.Fault.{Fault}
use Rattle.syntax.specs.declared.refusal.Fault.TheVariants.{TooLong, WrongSign, LargeNumber, PassedLimit, Unbound, BoundTwice, UsedTwice, Unused, IllTyped, NoNumber, HighType, FewCells, ManyIterators}
use Rattle.syntax.specs.declared.refusal.Refusal.{Refusal}
use Rattle.syntax.specs.Trees.{Name, Binder, Tree, occ, num, succ, lam, app, pair, split, iter, erase}
use Rattle.syntax.specs.Names.{resolve, among, fault, unbound, binders, bound_twice, occurrences, used_once, misused, name_faults, number, before, sooner, least, name_fault}
use Rattle.grammar.specs.Uses.{Linear}
use Rattle.grammar.specs.Naming.{Unlike, Distinct, NamesRight, NamesLeast}
use Rattle.grammar.proofs.Places.{Ordered, spans_ordered, spelled_spans}
use Rattle.grammar.proofs.Names.{Use, except, loose, resolved, Below, below_more, below_two, same-turned, same_is, same_self, uses}
use Rattle.grammar.proofs.Owners.{lam_count, first_count, second-count}
use Rattle.grammar.proofs.NameFaults.{listed}

-- lists that are empty
none : {A : Type 0} (k l : List A) → (k ++ l ≡ []) ↔ ((k ≡ []) × (l ≡ []))
none [] l = (λ h. (refl, h), λ h. h.1)
none (x ∷ k) l = (λ h. let z : ◌≡◌ {A = ℕ} 0 1 = cc in absurd (omega arith), λ h. let z : ◌≡◌ {A = ℕ} 0 1 = cc h.0 in absurd (omega arith))

used_once_lem : (x : Binder) (l : List ℕ) → (used_once x l ≡ []) ↔ (length l ≡ 1)
used_once_lem x [] = (λ h. let z : ◌≡◌ {A = ℕ} 0 1 = cc in absurd (omega arith), λ h. absurd (omega arith))
used_once_lem x (p ∷ []) = (λ h. refl, λ h. refl)
used_once_lem x (p ∷ q ∷ l) = (λ h. let z : ◌≡◌ {A = ℕ} 0 1 = cc in absurd (omega arith), λ h. absurd (omega arith))

-- a binder is used once, by its name as by its place
once_counted : (x : Binder) (l : List ℕ) (n : ℕ) → n ≡ length l → (used_once x l ≡ []) ↔ (n ≡ 1)
once_counted x l n e = (λ h. e ∙ (used_once_lem x l).0 h, λ h. (used_once_lem x l).1 (sym e ∙ h))

-- no binder is misused exactly where the resolved term is linear
linear : (t : Tree Name) (σ : List Binder) (lo : ℕ) → Below lo σ → Ordered lo t → (misused t ≡ []) ↔ Linear (erase (resolve σ t))
linear (occ p w) σ lo b o = (λ h. tt, λ h. refl)
linear (num p n) σ lo b o = (λ h. tt, λ h. refl)
linear (succ p t) σ lo b o = linear t σ lo b o
linear (lam p x T t) σ lo b o =
    let m = below_more lo (suc x.place) σ x b (omega (arith, o.0)) (omega arith) in
    let i = linear t (σ ++ (x ∷ [])) (suc x.place) m o.1 in
    let c = once_counted x (occurrences x.name t) _ (lam_count σ lo x t b o.0 o.1) in
    let a = none (used_once x (occurrences x.name t)) (misused t) in
    (λ h. (c.0 (a.0 h).0, i.0 (a.0 h).1), λ h. a.1 (c.1 h.0, i.1 h.1))
linear (app p t u) σ lo b o =
    let i = linear t σ lo b o.0 in
    let j = linear u σ lo b o.1 in
    let a = none (misused t) (misused u) in
    (λ h. (i.0 (a.0 h).0, j.0 (a.0 h).1), λ h. a.1 (i.1 h.0, j.1 h.1))
linear (pair p t u) σ lo b o =
    let i = linear t σ lo b o.0 in
    let j = linear u σ lo b o.1 in
    let a = none (misused t) (misused u) in
    (λ h. (i.0 (a.0 h).0, j.0 (a.0 h).1), λ h. a.1 (i.1 h.0, j.1 h.1))
linear (split p x y t u) σ lo b o =
    let τ = σ ++ (x ∷ y ∷ []) in
    let n = below_two lo σ x y b o.0 o.1 in
    let i = linear t σ lo b o.2 in
    let j = linear u τ (suc y.place) n o.3 in
    let firsts = cond (bytes_eq x.name y.name) [] (occurrences x.name u) in
    let c = once_counted x firsts _ (first_count σ lo x y u b o.0 o.1 o.3) in
    let d = once_counted y (occurrences y.name u) _ (second-count σ lo x y u b o.0 o.1 o.3) in
    let apart : eqb x.place y.place ≡ false = ne_eqb x.place y.place (λ e. let l = o.1 in omega arith) in
    let e = none (used_once x firsts) (used_once y (occurrences y.name u) ++ (misused t ++ misused u)) in
    let f = none (used_once y (occurrences y.name u)) (misused t ++ misused u) in
    let g = none (misused t) (misused u) in
    (λ h. let r = f.0 (e.0 h).1 in let s = g.0 r.1 in (apart, c.0 (e.0 h).0, d.0 r.0, i.0 s.0, j.0 s.1), λ h. e.1 (c.1 h.1, f.1 (d.1 h.2, g.1 (i.1 h.3, j.1 h.4))))
linear (iter p t u v) σ lo b o =
    let i = linear t σ lo b o.0 in
    let j = linear u σ lo b o.1 in
    let k = linear v σ lo b o.2 in
    let a = none (misused t) (misused u ++ misused v) in
    let c = none (misused u) (misused v) in
    (λ h. let r = c.0 (a.0 h).1 in (i.0 (a.0 h).0, j.0 r.0, k.0 r.1), λ h. a.1 (i.1 h.0, c.1 (j.1 h.1, k.1 h.2)))

-- the occurrences of the names that are not in force
abbrev missing : List Name → List Use → List Refusal
missing σ [] = []
missing σ (o ∷ l) = cond (among o.1 σ) (missing σ l) (fault Unbound o.0 ∷ missing σ l)

missing_append : (σ : List Name) (k l : List Use) → missing σ (k ++ l) ≡ missing σ k ++ missing σ l
missing_append σ [] l = refl
missing_append σ (o ∷ k) l = by (among o.1 σ) (missing_append σ k l)
  where
    by : (b : Bool) → missing σ (k ++ l) ≡ missing σ k ++ missing σ l → cond b (missing σ (k ++ l)) (fault Unbound o.0 ∷ missing σ (k ++ l)) ≡ cond b (missing σ k) (fault Unbound o.0 ∷ missing σ k) ++ missing σ l
    by true h = h
    by false h = ap (λ z. fault Unbound o.0 ∷ z) h

missing_bound : (w : Name) (σ : List Name) (l : List Use) → missing (w ∷ σ) l ≡ missing σ (except w l)
missing_bound w σ [] = refl
missing_bound w σ (o ∷ l) = by (bytes_eq w o.1) refl (missing_bound w σ l)
  where
    by : (b : Bool) → bytes_eq w o.1 ≡ b → missing (w ∷ σ) l ≡ missing σ (except w l) → missing (w ∷ σ) (o ∷ l) ≡ missing σ (cond b (except w l) (o ∷ except w l))
    by true e h = rw (same-turned o.1 w, e) h
    by false e h = rw (same-turned o.1 w, e) (ap (λ z. cond (among o.1 σ) z (fault Unbound o.0 ∷ z)) h)

except_turned : (v w : Name) (l : List Use) → except v (except w l) ≡ except w (except v l)
except_turned v w [] = refl
except_turned v w (o ∷ l) = by (bytes_eq v o.1) refl (bytes_eq w o.1) refl (except_turned v w l)
  where
    by : (a : Bool) → bytes_eq v o.1 ≡ a → (b : Bool) → bytes_eq w o.1 ≡ b → except v (except w l) ≡ except w (except v l) → except v (cond b (except w l) (o ∷ except w l)) ≡ except w (cond a (except v l) (o ∷ except v l))
    by true e true f h = h
    by true e false f h = rw e h
    by false e true f h = rw f h
    by false e false f h = rw (e, f) (ap (λ z. o ∷ z) h)

unbound_missing : (t : Tree Name) (σ : List Name) → unbound σ t ≡ missing σ (loose t)
unbound_missing (occ p w) σ = refl
unbound_missing (num p n) σ = refl
unbound_missing (succ p t) σ = unbound_missing t σ
unbound_missing (lam p x T t) σ = unbound_missing t (x.name ∷ σ) ∙ missing_bound x.name σ (loose t)
unbound_missing (app p t u) σ = rw (unbound_missing t σ, unbound_missing u σ) (sym (missing_append σ (loose t) (loose u)))
unbound_missing (pair p t u) σ = rw (unbound_missing t σ, unbound_missing u σ) (sym (missing_append σ (loose t) (loose u)))
unbound_missing (split p x y t u) σ =
    let e = unbound_missing u (x.name ∷ y.name ∷ σ) ∙ missing_bound x.name (y.name ∷ σ) (loose u) ∙ missing_bound y.name σ (except x.name (loose u)) ∙ ap (missing σ) (except_turned y.name x.name (loose u)) in
    rw (unbound_missing t σ, e) (sym (missing_append σ (loose t) (except x.name (except y.name (loose u)))))
unbound_missing (iter p t u v) σ =
    rw (unbound_missing t σ, unbound_missing u σ, unbound_missing v σ) (sym (missing_append σ (loose t) (loose u ++ loose v) ∙ ap (λ z. missing σ (loose t) ++ z) (missing_append σ (loose u) (loose v))))

nothing_missing : (l : List Use) → (missing [] l ≡ []) ↔ (resolved [] l ≡ [])
nothing_missing [] = (λ h. refl, λ h. refl)
nothing_missing (o ∷ l) = (λ h. let z : ◌≡◌ {A = ℕ} 0 1 = cc in absurd (omega arith), λ h. let z : ◌≡◌ {A = ℕ} 0 1 = cc in absurd (omega arith))

closed : (t : Tree Name) → Ordered 0 t → (unbound [] t ≡ []) ↔ (free (erase (resolve [] t)) ≡ [])
closed t o =
    let u = uses t [] 0 tt o in
    let m = unbound_missing t [] in
    let n = nothing_missing (loose t) in
    (λ h. u ∙ n.0 (sym m ∙ h), λ h. m ∙ n.1 (sym u ∙ h))

-- names that were bound before
abbrev Clear : List Name → List Binder → Type 0
Clear σ [] = Unit {0}
Clear σ (x ∷ xs) = (among x.name σ ≡ false) × Clear σ xs

differ : (v w : Name) → (v ≡ w → ⊥) → bytes_eq w v ≡ false
differ v w h = elim (cases_Bool (bytes_eq w v)) [ inl e ↦ absurd (h (sym (same_is w v e))) | inr e ↦ e ]

clear_more : (w : Name) (σ : List Name) (xs : List Binder) → Clear (w ∷ σ) xs ↔ (Unlike w xs × Clear σ xs)
clear_more w σ [] = (λ h. (tt, tt), λ h. tt)
clear_more w σ (x ∷ xs) =
    let i = clear_more w σ xs in (
      λ h. (let p = or_parts (bytes_eq x.name w) (among x.name σ) h.0 in let r = i.0 h.1 in ((λ e. both_ways (bytes_eq x.name w) p.0 (subst (λ z. bytes_eq z w ≡ true) e (same_self w)), r.0), (p.1, r.1))),
      λ h. (or_from (bytes_eq x.name w) (among x.name σ) (differ w x.name h.0.0) h.1.0, i.1 (h.0.1, h.1.1)),
    )

bound_once : (xs : List Binder) (σ : List Name) → (bound_twice σ xs ≡ []) ↔ (Distinct xs × Clear σ xs)
bound_once [] σ = (λ h. (tt, tt), λ h. refl)
bound_once (x ∷ xs) σ = by (among x.name σ) refl (bound_once xs (x.name ∷ σ))
  where
    by : (b : Bool) → among x.name σ ≡ b → (bound_twice (x.name ∷ σ) xs ≡ []) ↔ (Distinct xs × Clear (x.name ∷ σ) xs) → (cond b (fault BoundTwice x.place ∷ bound_twice (x.name ∷ σ) xs) (bound_twice (x.name ∷ σ) xs) ≡ []) ↔ (Distinct (x ∷ xs) × Clear σ (x ∷ xs))
    by true e i = (λ h. let z : ◌≡◌ {A = ℕ} 0 1 = cc in absurd (omega arith), λ h. absurd (both_ways (among x.name σ) h.1.0 e))
    by false e i =
        let c = clear_more x.name σ xs in
        (λ h. (let r = i.0 h in let s = c.0 r.1 in ((s.0, r.0), (e, s.1))), λ h. i.1 (h.0.1, c.1 (h.0.0, h.1.1)))

all_clear : (xs : List Binder) → Clear [] xs
all_clear [] = tt
all_clear (x ∷ xs) = (refl, all_clear xs)

-- the least of faults
sooner_some : (f : Refusal) (o : Option Refusal) → sooner f o ≡ None → ⊥
sooner_some f None h = let z : ◌≡◌ {A = ℕ} 0 1 = cc in omega arith
sooner_some f (Some g) h = let z : ◌≡◌ {A = ℕ} 0 1 = cc in omega arith

no_least : (fs : List Refusal) → (least fs ≡ None) ↔ (fs ≡ [])
no_least [] = (λ h. refl, λ h. refl)
no_least (f ∷ fs) = (λ h. absurd (sooner_some f (least fs) h), λ h. let z : ◌≡◌ {A = ℕ} 0 1 = cc in absurd (omega arith))

-- a fault that does not go before another, by its place and number
behind : (g f : Refusal) → before g f ≡ false → (f.place < g.place) ⊎ ((f.place ≡ g.place) × (number f.fault ≤ number g.fault))
behind g f h = grind (arith, nat_tests)

not_before : (g f : Refusal) → (f.place < g.place) ⊎ ((f.place ≡ g.place) × (number f.fault ≤ number g.fault)) → before g f ≡ false
not_before g f h = grind (arith, nat_tests)

pub right : NamesRight
right text t s =
    let a = spelled_spans text t s in
    let o = spans_ordered t 0 a.0 a.1 in
    let l = linear t [] 0 tt o in
    let c = closed t o in
    let b = bound_once (binders t) [] in
    let n = no_least (name_faults t) in
    let e = none (unbound [] t) (bound_twice [] (binders t) ++ misused t) in
    let d = none (bound_twice [] (binders t)) (misused t) in (
      λ h. (let p = e.0 (n.0 h) in let q = d.0 p.1 in record { once = (b.0 q.0).0; linear = l.0 q.1; closed = c.0 p.0 }),
      λ h. n.1 (e.1 (c.1 h.closed, d.1 (b.1 (h.once, all_clear (binders t)), l.1 h.linear))),
    )

-- the least of listed faults
record LeastOf (f : Refusal) (fs : List Refusal) : Type 0 where
  pub among : Memᴰ f fs
  pub first : (g : Refusal) → Memᴰ g fs → before g f ≡ false

first_of : (g h k : Refusal) → before g h ≡ true → before k h ≡ false → before k g ≡ false
first_of g h k x y = not_before k g (grind (arith, nat_tests, behind k h y))

not_self : (f : Refusal) → before f f ≡ false
not_self f = not_before f f (inr (refl, omega arith))

sooner-least : (g : Refusal) (fs : List Refusal) (f : Refusal) (o : Option Refusal) → least fs ≡ o → ((h : Refusal) → o ≡ Some h → LeastOf h fs) → sooner g o ≡ Some f → LeastOf f (g ∷ fs)
sooner-least g fs f None e i h =
    let s : g ≡ f = cc in
    let n = (no_least fs).0 e in
    subst (λ z. LeastOf z (g ∷ fs)) s (record { among = Memᴰ.head refl; first = λ k m. elim (Memᴰ.cases_cons m) [ inl w ↦ rw w (not_self g) | inr w ↦ elim (subst (Memᴰ k) n w) [ ] ] })
sooner-least g fs f (Some h) e i q = by (before g h) refl q
  where
    by : (b : Bool) → before g h ≡ b → Some (cond b g h) ≡ Some f → LeastOf f (g ∷ fs)
    by true x y =
        let l = i h refl in
        subst (λ z. LeastOf z (g ∷ fs)) (let s : g ≡ f = cc in s) (record { among = Memᴰ.head refl; first = λ k m. elim (Memᴰ.cases_cons m) [ inl w ↦ rw w (not_self g) | inr w ↦ first_of g h k x (l.first k w) ] })
    by false x y =
        let l = i h refl in
        subst (λ z. LeastOf z (g ∷ fs)) (let s : h ≡ f = cc in s) (record { among = Memᴰ.tail l.among; first = λ k m. elim (Memᴰ.cases_cons m) [ inl w ↦ rw w x | inr w ↦ l.first k w ] })

least_of : (fs : List Refusal) (f : Refusal) → least fs ≡ Some f → LeastOf f fs
least_of [] f h = let z : ◌≡◌ {A = ℕ} 0 1 = cc in absurd (omega arith)
least_of (g ∷ fs) f h = sooner-least g fs f (least fs) refl (least_of fs) h

-- a fault by its number
abbrev fault_by_number : ℕ → Fault
fault_by_number n = cond (eqb n 1) TooLong (cond (eqb n 2) WrongSign (cond (eqb n 3) LargeNumber (cond (eqb n 4) PassedLimit (cond (eqb n 5) Unbound (cond (eqb n 6) BoundTwice (cond (eqb n 7) UsedTwice (cond (eqb n 8) Unused (cond (eqb n 9) IllTyped (cond (eqb n 10) NoNumber (cond (eqb n 11) HighType (cond (eqb n 12) FewCells ManyIterators)))))))))))

numbered : (f : Fault) → fault_by_number (number f) ≡ f
numbered TooLong = refl
numbered WrongSign = refl
numbered LargeNumber = refl
numbered PassedLimit = refl
numbered Unbound = refl
numbered BoundTwice = refl
numbered UsedTwice = refl
numbered Unused = refl
numbered IllTyped = refl
numbered NoNumber = refl
numbered HighType = refl
numbered FewCells = refl
numbered ManyIterators = refl

same_refusal : (f g : Refusal) → f.fault ≡ g.fault → f.place ≡ g.place → f ≡ g
same_refusal f g s p = ap (λ z. record { fault = z; place = f.place }) s ∙ ap (λ z. record { fault = g.fault; place = z }) p

least_once : (f g : Refusal) (fs : List Refusal) → LeastOf f fs → LeastOf g fs → f ≡ g
least_once f g fs x y =
    let a = behind g f (x.first g y.among) in
    let b = behind f g (y.first f x.among) in
    let p : f.place ≡ g.place = grind (arith, a, b) in
    let n : number f.fault ≡ number g.fault = grind (arith, a, b) in
    same_refusal f g (sym (numbered f.fault) ∙ ap fault_by_number n ∙ numbered g.fault) p

-- and that it is the one found
of_least : (fs : List Refusal) (f : Refusal) (o : Option Refusal) → least fs ≡ o → LeastOf f fs → o ≡ Some f
of_least fs f None e l = elim (subst (Memᴰ f) ((no_least fs).0 e) l.among) [ ]
of_least fs f (Some g) e l = ap Some (least_once g f fs (least_of fs g e) l)

pub leastly : NamesLeast
leastly text t f s =
    let a = spelled_spans text t s in
    let n = listed t a.0 a.1 in (
      λ h. (let l = least_of (name_faults t) f h in record { fault = (n f).0 l.among; first = λ g k. l.first g ((n g).1 k) }),
      λ l. of_least (name_faults t) f (name_fault t) refl (record { among = (n f).1 l.fault; first = λ g k. l.first g ((n g).0 k) }),
    )

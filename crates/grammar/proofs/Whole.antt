-- Whole programs: what is read, what is spelled, and where a refusal stands.
use Rattle.std.proofs.Common.{◌≡◌, ℕ, suc, List, [], ◌∷◌, ◌++◌, length, take, sym, refl, ap, ◌∙◌, subst, inl, inr, append_assoc, append-nil, arith}
use lib.Seq.{take-append_seam}
use Rattle.syntax.specs.declared.refusal.Refusal.{Refusal}
use Rattle.syntax.specs.Trees.{Name, Tree}
use Rattle.syntax.specs.Signs.{Placed}
use Rattle.syntax.specs.Grammar.{Stands}
use Rattle.syntax.specs.Parse.{Out, got, refused, and_then, term, last, whole}
use Rattle.grammar.specs.Roles.{Role, roles, Kept, Broken}
use Rattle.grammar.specs.Reading.{RolesFit, ReadSpelled, SpelledRead, Unambiguous, Begins, KeptBefore, Refused, misplaced, passes, RefusedRightly}
use Rattle.grammar.proofs.Machine.{Item, a_term, Vals, Fills, all_roles}
use Rattle.grammar.proofs.Runs.{Check, Outcome, done, stop, mapped, run, Leads, as_long, accepts, accepted, Halted, halted}
use Rattle.grammar.proofs.Runs as runs
use Rattle.grammar.proofs.Simulation.{limits, handle, step_then, sim_term}
use Rattle.grammar.proofs.Limits.{within_kept, kept_within, KeptFrom, Counted, leads_kept, kept_leads, kept_from, from_kept, breaks}

-- the stack of a whole program
abbrev goal : List Item
goal = a_term 1 ∷ []

abbrev begin : ℕ → List Placed → Outcome (Vals goal)
begin end s = run limits end s goal 0 0

-- the whole reader as the machine
ends : (end n m : ℕ) (t : Tree Name) (r : List Placed) → mapped (λ vs. t) (run limits end r [] n m) ≡ handle (last t r) (λ u q. done u)
ends end n m t [] = refl
ends end n m t ((p, x) ∷ r) = refl

as_machine : (end : ℕ) (s : List Placed) → mapped (λ w. w.0) (begin end s) ≡ handle (whole end s) (λ t r. done t)
as_machine end s = step_then (term end 128 0 0 s) _ _ (sim_term end 128 1 refl 0 0 s [] (Tree Name) (λ w. w.0)) (λ a r. ends end a.1 a.2 a.0 r)

no_rest : (o : Out (Tree Name × ℕ × ℕ)) (t : Tree Name) (r : List Placed) → and_then o (λ a q. last a.0 q) ≡ got t r → r ≡ []
no_rest (refused f) t r h = let z : ◌≡◌ {A = ℕ} 0 1 = cc in absurd (omega arith)
no_rest (got a []) t r h = let e : [] ≡ r = cc in sym e
no_rest (got a ((p, x) ∷ q)) t r h = let z : ◌≡◌ {A = ℕ} 0 1 = cc in absurd (omega arith)

done_is : (o : Outcome (Vals goal)) (t : Tree Name) → mapped (λ w. w.0) o ≡ done t → (w : Vals goal) × (o ≡ done w) × (w.0 ≡ t)
done_is (done w) t h = (w, refl, cc)
done_is (stop f) t h = let z : ◌≡◌ {A = ℕ} 0 1 = cc in absurd (omega arith)

stop_is : (o : Outcome (Vals goal)) (f : Refusal) → mapped (λ w. w.0) o ≡ stop f → o ≡ stop f
stop_is (done w) f h = let z : ◌≡◌ {A = ℕ} 0 1 = cc in absurd (omega arith)
stop_is (stop g) f h = let e : g ≡ f = cc in ap stop e

got_is : (o : Out (Tree Name)) (t : Tree Name) → handle o (λ u r. done u) ≡ done t → (r : List Placed) × (o ≡ got t r)
got_is (got u r) t h = let e : u ≡ t = cc in (r, ap (λ z. got z r) e)
got_is (refused f) t h = let z : ◌≡◌ {A = ℕ} 0 1 = cc in absurd (omega arith)

-- a filling of that stack is a spelling
spelled : (t : Tree Name) (vs : Vals goal) (s : List Placed) → vs.0 ≡ t → Fills goal vs s → Stands t s []
spelled t vs s e f = subst (λ u. Stands u s []) e (subst (Stands vs.0 s) f.2 f.1)

filled : (t : Tree Name) (s : List Placed) → Stands t s [] → Fills goal (t, tt) s
filled t s h = ([], h, refl)

goal_roles : (t : Tree Name) → all_roles goal (t, tt) ≡ roles 1 t
goal_roles t = append-nil (roles 1 t)

pub fit : RolesFit
fit s t h = (ap length (sym (goal_roles t)) ∙ as_long s goal (t, tt) (filled t s h), (kept_within t, within_kept t))

pub sound : ReadSpelled
sound end s t r h =
    let m = as_machine end s ∙ ap (λ o. handle o (λ u q. done u)) h in
    let d = done_is (begin end s) t m in
    let w = d.0 in
    let a = accepted limits end s goal w 0 0 d.1 in
    let k = leads_kept (all_roles goal w) 0 0 a.first a.second (omega arith) (omega arith) a.leads in
    let e : all_roles goal w ≡ roles 1 t = goal_roles w.0 ∙ ap (roles 1) d.2 in
    record { all = no_rest (term end 128 0 0 s) t r h; spelled = spelled t w s d.2 a.fills; within = kept_within t (from_kept (roles 1 t) (subst (KeptFrom 0 0) e k.kept)) }

pub complete : SpelledRead
complete end s t h w =
    let k = subst (KeptFrom 0 0) (sym (goal_roles t)) (kept_from (roles 1 t) (within_kept t w)) in
    let l = kept_leads (all_roles goal (t, tt)) 0 0 k in
    let d = accepts limits end s goal (t, tt) 0 0 l.0 l.1 (filled t s h) l.2 in
    let g = got_is (whole end s) t (sym (as_machine end s) ∙ ap (mapped (λ v. v.0)) d) in
    g.1 ∙ ap (got t) (no_rest (term end 128 0 0 s) t g.0 g.1)

-- without limits the machine reads every spelling, so that there is one only
free : Check
free n m ρ = runs.passes n m

unchecked : (l : List Role) (n m : ℕ) → Leads free n m l n m
unfolding free
unchecked [] n m = (refl, refl)
unchecked (ρ ∷ l) n m = (n, m, refl, unchecked l n m)

pub unambiguous : Unambiguous
unambiguous s t u h k =
    let a = accepts free 0 s goal (t, tt) 0 0 0 0 (filled t s h) (unchecked (all_roles goal (t, tt)) 0 0) in
    let b = accepts free 0 s goal (u, tt) 0 0 0 0 (filled u s k) (unchecked (all_roles goal (u, tt)) 0 0) in
    let c : ◌≡◌ {A = Outcome (Vals goal)} (done (t, tt)) (done (u, tt)) = sym a ∙ b in
    let e : ◌≡◌ {A = Vals goal} (t, tt) (u, tt) = cc in
    ap (λ w. w.0) e

begins_some : (front : List Placed) → (y : List Placed) × (vs : Vals goal) × Fills goal vs (front ++ y) → Begins front
begins_some front g = (g.0, g.1.0, spelled g.1.0 g.1 (front ++ g.0) refl g.2)

-- the roles of the signs before are those in the trace
kept_before : (end : ℕ) (s : List Placed) (f : Refusal) (h : Halted limits end s goal 0 0 f) → Counted 0 0 h.a h.b h.trace → KeptBefore h.front
kept_before end s f h c y t st =
    let r = h.traced y (t, tt) (filled t (h.front ++ y) st) in
    let e : take (length h.front) (roles 1 t) ≡ h.trace = ap (λ n. take n (roles 1 t)) (sym h.long) ∙ ap (take (length h.trace)) (sym (goal_roles t) ∙ r.1) ∙ take-append_seam h.trace r.0 in
    subst Kept (sym e) (from_kept h.trace c.kept)

one_more : (l : List Role) (ρ : Role) → suc (length l) ≡ length (l ++ (ρ ∷ []))
one_more [] ρ = refl
one_more (σ ∷ l) ρ = ap suc (one_more l ρ)

pub rightly : RefusedRightly
rightly end s f h =
    let m = as_machine end s ∙ ap (λ o. handle o (λ u q. done u)) h in
    let d = halted limits end s f goal 0 0 (stop_is (begin end s) f m) in
    let c = leads_kept d.trace 0 0 d.a d.b (omega arith) (omega arith) d.leads in
    let kept = kept_before end s f d c in
    elim d.why [
      | inl w ↦ subst (λ z. Refused end s (record { fault = z; place = f.place })) (sym w.fault) (misplaced (record { front = d.front; rest = d.rest; is = d.is; place = w.place; begins = begins_some d.front d.goes; kept = kept; stuck = λ y t n st. w.stuck y (t, tt) n (filled t (d.front ++ y) st) }))
      | inr w ↦ passes (record {
        front = d.front;
        sign = w.sign;
        rest = w.more;
        is = d.is ∙ ap (λ z. d.front ++ z) w.is;
        begins = (let g = w.goes in begins_some (d.front ++ ((f.place, w.sign) ∷ [])) (g.0, g.1, subst (Fills goal g.1) (sym (append_assoc d.front ((f.place, w.sign) ∷ []) g.0)) g.2));
        kept = kept;
        broken = λ q y t st.
            let r = w.traced q y (t, tt) (filled t (d.front ++ ((q, w.sign) ∷ y)) st) in
            let l = d.trace ++ (w.role ∷ []) in
            let e : roles 1 t ≡ l ++ r.0 = sym (goal_roles t) ∙ r.1 ∙ sym (append_assoc d.trace (w.role ∷ []) r.0) in
            let n : suc (length d.front) ≡ length l = ap suc (sym d.long) ∙ one_more d.trace w.role in
            let x : take (suc (length d.front)) (roles 1 t) ≡ l = ap (λ k. take k (roles 1 t)) n ∙ ap (take (length l)) e ∙ take-append_seam l r.0 in
            subst (λ z. Broken z f.fault) (sym x) (breaks d.trace w.role d.a d.b f.fault c w.refused);
      })
    ]

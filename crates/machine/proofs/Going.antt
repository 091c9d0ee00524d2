-- Steps granted to a walk have one outcome.
use Rattle.std.proofs.Common.{◌≡◌, ℕ, zero, suc, ◌<◌, ◌≤◌, ℤ, Some, None, Option, sym, refl, ap, ◌∙◌, subst, add-one, arith}
use native.Mathlib.Decide.{dec_le}
use Rattle.machine.specs.declared.reasons.Reason.{Reason}
use Rattle.machine.specs.declared.reasons.Reason.TheVariants.{TooManySteps}
use Rattle.machine.specs.declared.headings.Heading.{Heading}
use Rattle.machine.specs.declared.headings.Heading.TheVariants.{Up, Down}
use Rattle.machine.specs.Steps.{Next, to, ends, go, Laws}
use Rattle.machine.specs.Walks.{Place, place, about, may, Grant, Why, Granted, Goes, Asked, few, many}
use Rattle.machine.specs.Lawful.{go_none}
use Rattle.machine.proofs.Ways.{go_more, go_not_end}

same_or_less : (g h : ℕ) → (g < h → ⊥) → (h < g → ⊥) → g ≡ h
same_or_less g h a b = grind arith

module _ {P : Type 0} (next : P → Next P) (k : ℕ) (p : P) where
  why_late : (g h : ℕ) (q z : P) (why how : Option Reason) → g < h → go next g p ≡ to q → go next h p ≡ to z → Why (next q) k g why → Why (next z) k h how → ⊥
  why_late g h q z None None lt a b e f = omega arith
  why_late g h q z None (Some v) lt a b e f = omega (arith, f.0)
  why_late g h q z (Some w) how lt a b e f = go_not_end next g h p q z w lt a b e.1

  why_once : (g : ℕ) (q : P) (why how : Option Reason) → Why (next q) k g why → Why (next q) k g how → why ≡ how
  why_once g q None None e f = refl
  why_once g q None (Some v) e f = absurd (omega (arith, f.0))
  why_once g q (Some w) None e f = absurd (omega (arith, e.0))
  why_once g q (Some w) (Some v) e f = let a = e.1 in let b = f.1 in cc

  pub granted_once : {q z : P} (a d : Grant) → Granted next k p q a → Granted next k p z d → (a ≡ d) × (q ≡ z)
  granted_once {q} {z} a d s t =
      let count : a.0 ≡ d.0 = same_or_less a.0 d.0
      (λ lt. why_late a.0 d.0 q z a.1 d.1 lt s.came t.came s.why t.why)
      (λ lt. why_late d.0 a.0 z q d.1 a.1 lt t.came s.came t.why s.why) in
      let u = s.came in
      let v : go next a.0 p ≡ to z = ap (λ n. go next n p) count ∙ t.came in
      let end : q ≡ z = cc in
      let whys : Why (next q) k a.0 d.1 = rw (count, end) t.why in
      let reason : a.1 ≡ d.1 = why_once a.0 q a.1 d.1 s.why whys in
      (same a.0 d.0 a.1 d.1 count reason, end)
    where
      same : (m n : ℕ) (v w : Option Reason) → m ≡ n → v ≡ w → ◌≡◌ {A = Grant} (m, v) (n, w)
      same m n v w e f = rw (e, f) refl

-- a place is its state and its sum
pub same_place : {S : Type 0} (p q : Place S) → p.state ≡ q.state → p.sum ≡ q.sum → p ≡ q
same_place {S} p q ex es = by p.state q.state p.sum q.sum ex es
  where
    by : (x y : S) (s t : ℤ) → x ≡ y → s ≡ t → place x s ≡ place y t
    by x y s t ex es = rw (ex, es) refl

about_once : {S : Type 0} (turned : S → S) (q z : Place S) → ((x y : S) → turned x ≡ turned y → x ≡ y) → about turned q ≡ about turned z → q ≡ z
about_once turned q z once e = same_place q z (once q.state z.state (ap (λ w. w.state) e)) (ap (λ w. w.sum) e)

pub turned_once : {S : Type 0} {next : S → Next S} {turned : S → S} → Laws next turned → (x y : S) → turned x ≡ turned y → x ≡ y
turned_once {turned = turned} laws x y e = sym (laws.twice x) ∙ ap turned e ∙ laws.twice y

module _ {S : Type 0} {next : S → Next S} {turned : S → S} (laws : Laws next turned) where
  pub goes_once : (h : Heading) (k : ℕ) (p q z : Place S) (a d : Grant) → Goes h next turned k p q a → Goes h next turned k p z d → (a ≡ d) × (q ≡ z)
  goes_once Up k p q z a d r t = granted_once (may Up next) k p a d r t
  goes_once Down k p q z a d r t =
      let one = granted_once (may Down next) k (about turned p) a d r t in
      (one.0, about_once turned q z (turned_once laws) one.1)

  pub asked_once : (h : Heading) (k : ℕ) (p q z : Place S) (a d : Grant) → Asked h next turned k p q a → Asked h next turned k p z d → (a ≡ d) × (q ≡ z)
  asked_once h k p q z a d (few le r) (few le' t) = goes_once h k p q z a d r t
  asked_once h k p q z a d (few le r) (many lt e same) = absurd (omega arith)
  asked_once h k p q z a d (many lt e same) (few le t) = absurd (omega arith)
  asked_once h k p q z a d (many lt e same) (many lt' e' same') = (e ∙ sym e', same ∙ sym same')

-- and they always have one

pub record Outcome {P : Type 0} (next : P → Next P) (k : ℕ) (p : P) : Type 0 where
  pub grant : Grant
  pub reached : P
  pub granted : Granted next k p reached grant

one_more : {P : Type 0} (next : P → Next P) (k : ℕ) (p q : P) (o : Next P) → next q ≡ o → go next k p ≡ to q → Outcome next (suc k) p
one_more next k p q (to z) e h = record {
  grant = (suc k, None);
  reached = z;
  granted = record { came = rw add-one at (go_more next k p q z h e); why = refl };
}
one_more next k p q (ends w) e h = record { grant = (k, Some w); reached = q; granted = record { came = h; why = (omega arith, e) } }

pub outcome : {P : Type 0} (next : P → Next P) (k : ℕ) (p : P) → Outcome next k p
outcome next zero p = record { grant = (0, None); reached = p; granted = record { came = go_none next p; why = refl } }
outcome {P} next (suc k) p = let o = outcome next k p in by o.grant.0 o.grant.1 o.reached o.granted.came o.granted.why
  where
    by : (g : ℕ) (why : Option Reason) (q : P) → go next g p ≡ to q → Why (next q) k g why → Outcome next (suc k) p
    by g None q came e = one_more next k p q (next q) refl (ap (λ n. go next n p) (sym e) ∙ came)
    by g (Some w) q came e = record { grant = (g, Some w); reached = q; granted = record { came = came; why = (omega (arith, e.0), e.1) } }

module _ {S : Type 0} {next : S → Next S} {turned : S → S} (laws : Laws next turned) where
  pub goes_some : (h : Heading) (k : ℕ) (p : Place S) → (a : Grant) × (q : Place S) × Goes h next turned k p q a
  goes_some Up k p = let o = outcome (may Up next) k p in (o.grant, o.reached, o.granted)
  goes_some Down k p =
      let o = outcome (may Down next) k (about turned p) in
      let z = o.reached in
      (o.grant, about turned z, subst (λ (w : Place S). Granted (may Down next) k (about turned p) w o.grant) (ap (λ x. place x z.sum) (sym (laws.twice z.state))) o.granted)

  pub asked_some : (h : Heading) (k : ℕ) (p : Place S) → (a : Grant) × (q : Place S) × Asked h next turned k p q a
  asked_some h k p = by (dec_le k 1000000)
    where
      by : Dec (k ≤ 1000000) → (a : Grant) × (q : Place S) × Asked h next turned k p q a
      by (yes le) = let o = goes_some h k p in (o.0, o.1, few le o.2)
      by (no more) = ((0, Some TooManySteps), p, many (omega arith) refl refl)

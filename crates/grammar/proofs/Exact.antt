-- The theorems about signs, names and types, put together over a text.
use Rattle.std.proofs.Common.{◌≡◌, ℕ, ◌≤◌, Bool, true, false, cond, leb, List, [], length, Some, None, Ok, Err, Option, Result, sym, refl, ap, ◌∙◌, subst, arith}
use Rattle.std.proofs.lemmas.Bool.{le-leb, lt-leb, leb-true, leb-false}
use Rattle.calculus.specs.Types.{Ty, N, ◌⇒◌, ◌⊗◌}
use Rattle.calculus.specs.Terms.{iterators}
use Rattle.syntax.specs.declared.refusal.Fault.TheVariants.{TooLong, NoNumber, ManyIterators}
use Rattle.syntax.specs.declared.refusal.Refusal.{Refusal}
use Rattle.syntax.specs.Trees.{Name, Tree, erase}
use Rattle.syntax.specs.Signs.{signs_of}
use Rattle.syntax.specs.Grammar.{Stands, Spells, Within}
use Rattle.syntax.specs.Parse.{Out, got, refused, whole}
use Rattle.syntax.specs.Names.{resolve, fault, name_fault}
use Rattle.syntax.specs.Reads.{or_fault, named, reads}
use Rattle.language.specs.Infer.{Checked, good, bad, infer}
use Rattle.language.specs.Judgements.{nobody}
use Rattle.language.specs.Accepts.{numbered, typed, accepts as answers}
use Rattle.grammar.specs.Derivations.{Derives, given}
use Rattle.grammar.specs.Reading.{Refused}
use Rattle.grammar.specs.Naming.{WellNamed}
use Rattle.grammar.specs.Exactness.{Accepted, AcceptedExactly, AcceptedOne, Named, Rejected, too_long, unread, misnamed, untyped, no_number, many_iterators, RejectedExactly}
use Rattle.grammar.proofs.Contexts.{linear, keys_free}
use Rattle.grammar.proofs.Unique.{unique}
use Rattle.grammar.proofs.Inferred.{inferred, derived, first}
use Rattle.grammar.proofs.Whole.{sound, complete, unambiguous, rightly}
use Rattle.grammar.proofs.Naming.{right, leastly}
use Rattle.grammar.proofs.Refusals.{refused_once, not_refused}

-- what is read of a text: why it is refused, or its term with well-used names
data ReadAs (text : List ℕ) : Result (Tree ℕ) Refusal → Type 0 where
  rejects : {f : Refusal} → Rejected text f → ReadAs text (Err f)
  names : (t : Tree Name) → Named text t → ReadAs text (Ok (resolve [] t))

read_names : (text : List ℕ) (t : Tree Name) (o : Option Refusal) → name_fault t ≡ o → length text ≤ 16384 → Stands t (signs_of text) [] → Within t → ReadAs text (or_fault t o)
read_names text t None e l s w = names t (record { short = l; spelled = s; within = w; named = (right text t s).0 e })
read_names text t (Some f) e l s w = rejects (misnamed t l s w ((leastly text t f s).0 e))

read_signs : (text : List ℕ) (o : Out (Tree Name)) → whole (length text) (signs_of text) ≡ o → length text ≤ 16384 → ReadAs text (named o)
read_signs text (refused f) e l = rejects (unread l (rightly (length text) (signs_of text) f e))
read_signs text (got t r) e l = let s = sound (length text) (signs_of text) t r e in read_names text t (name_fault t) refl l s.spelled s.within

read_text : (text : List ℕ) (b : Bool) → leb (length text) 16384 ≡ b → ReadAs text (cond b (named (whole (length text) (signs_of text))) (Err (fault TooLong 0)))
read_text text true e = read_signs text (whole (length text) (signs_of text)) refl (leb-true (length text) 16384 e)
read_text text false e = rejects (too_long (leb-false (length text) 16384 e))

-- what a text is answered: why it is refused, or its accepted term
data Answered (text : List ℕ) : Result (Tree ℕ) Refusal → Type 0 where
  refuses : {f : Refusal} → Rejected text f → Answered text (Err f)
  accepts : (t : Tree Name) → Accepted text t → Answered text (Ok (resolve [] t))

-- a closed term has its type in the empty context
in_nothing : (t : Tree Name) (A : Ty) → WellNamed t → infer nobody (resolve [] t) ≡ good A → Derives [] (erase (resolve [] t)) A
in_nothing t A w e = subst (λ l. Derives (given nobody l) (erase (resolve [] t)) A) w.closed (inferred nobody (resolve [] t) A w.linear e)

few_enough : (text : List ℕ) (t : Tree Name) → Named text t → Derives [] (erase (resolve [] t)) N → (b : Bool) → leb (iterators (erase (resolve [] t))) 64 ≡ b → Answered text (cond b (Ok (resolve [] t)) (Err (fault ManyIterators 0)))
few_enough text t n d true e = accepts t (record { short = n.short; spelled = n.spelled; within = n.within; once = n.named.once; derived = d; few = leb-true (iterators (erase (resolve [] t))) 64 e })
few_enough text t n d false e = refuses (many_iterators t n d (leb-false (iterators (erase (resolve [] t))) 64 e))

answer_types : (text : List ℕ) (t : Tree Name) → Named text t → (c : Checked) → infer nobody (resolve [] t) ≡ c → Answered text (numbered (resolve [] t) c)
answer_types text t n (bad f p) e = refuses (untyped t n ((first nobody (resolve [] t) f p n.named.linear).0 e))
answer_types text t n (good N) e = few_enough text t n (in_nothing t N n.named e) (leb (iterators (erase (resolve [] t))) 64) refl
answer_types text t n (good (A ⇒ B)) e = refuses (no_number t n (in_nothing t (A ⇒ B) n.named e) (λ h. let z : ◌≡◌ {A = ℕ} 0 1 = cc in omega arith))
answer_types text t n (good (A ⊗ B)) e = refuses (no_number t n (in_nothing t (A ⊗ B) n.named e) (λ h. let z : ◌≡◌ {A = ℕ} 0 1 = cc in omega arith))

answer_read : (text : List ℕ) (o : Result (Tree ℕ) Refusal) → ReadAs text o → Answered text (typed o)
answer_read text o (rejects r) = refuses r
answer_read text o (names t n) = answer_types text t n (infer nobody (resolve [] t)) refl

answered : (text : List ℕ) → Answered text (answers text)
answered text = answer_read text (reads text) (read_text text (leb (length text) 16384) refl)

from_ok : (text : List ℕ) (o : Result (Tree ℕ) Refusal) (r : Tree ℕ) → Answered text o → o ≡ Ok r → (t : Tree Name) × Accepted text t × (resolve [] t ≡ r)
from_ok text o r (refuses x) e = let z : ◌≡◌ {A = ℕ} 0 1 = cc in absurd (omega arith)
from_ok text o r (accepts t a) e = (t, a, cc)

from_err : (text : List ℕ) (o : Result (Tree ℕ) Refusal) (f : Refusal) → Answered text o → o ≡ Err f → Rejected text f
from_err text o f (refuses {f = g} x) e = subst (Rejected text) (let s : g ≡ f = cc in s) x
from_err text o f (accepts t a) e = let z : ◌≡◌ {A = ℕ} 0 1 = cc in absurd (omega arith)

-- what is read of a text whose signs spell a term within the limits
reads-named : (text : List ℕ) (t : Tree Name) → length text ≤ 16384 → Spells text t → Within t → reads text ≡ or_fault t (name_fault t)
reads-named text t l s w =
    ap (λ b. cond b (named (whole (length text) (signs_of text))) (Err (fault TooLong 0))) (le-leb (length text) 16384 l)
    ∙ ap named (complete (length text) (signs_of text) t s w)

reads-term : (text : List ℕ) (t : Tree Name) → Named text t → reads text ≡ Ok (resolve [] t)
reads-term text t n = reads-named text t n.short n.spelled n.within ∙ ap (or_fault t) ((right text t n.spelled).1 n.named)

-- an accepted text is answered with its term
accepted_answers : (text : List ℕ) (t : Tree Name) → Accepted text t → answers text ≡ Ok (resolve [] t)
accepted_answers text t a =
    let d = a.derived in
    let w : WellNamed t = record { once = a.once; linear = linear d.derived; closed = sym (keys_free d.derived) } in
    let n : Named text t = record { short = a.short; spelled = a.spelled; within = a.within; named = w } in
    ap typed (reads-term text t n)
    ∙ ap (numbered (resolve [] t)) (derived nobody (resolve [] t) [] N tt d)
    ∙ ap (λ b. cond b (Ok (resolve [] t)) (Err (fault ManyIterators 0))) (le-leb (iterators (erase (resolve [] t))) 64 a.few)

pub exactly : AcceptedExactly
exactly text r = (λ h. from_ok text (answers text) r (answered text) h, λ h. accepted_answers text h.0 h.1 ∙ ap Ok h.2)

pub one : AcceptedOne
one text t a = record { term = λ u s. unambiguous (signs_of text) u t s a.spelled; types = unique (erase (resolve [] t)) }

-- each reason to refuse a text gives the answer
out_refused : (text : List ℕ) (f : Refusal) (o : Out (Tree Name)) → whole (length text) (signs_of text) ≡ o → Refused (length text) (signs_of text) f → named o ≡ Err f
out_refused text f (refused g) e r = ap Err (refused_once (rightly (length text) (signs_of text) g e) r)
out_refused text f (got t q) e r = let s = sound (length text) (signs_of text) t q e in absurd (not_refused t r s.spelled s.within)

no_number_answer : (t : Tree ℕ) (A : Ty) → (A ≡ N → ⊥) → numbered t (good A) ≡ Err (fault NoNumber 0)
no_number_answer t N n = absurd (n refl)
no_number_answer t (A ⇒ B) n = refl
no_number_answer t (A ⊗ B) n = refl

rejected_answers : (text : List ℕ) (f : Refusal) → Rejected text f → answers text ≡ Err f
rejected_answers text f (too_long l) = ap (λ b. typed (cond b (named (whole (length text) (signs_of text))) (Err (fault TooLong 0)))) (lt-leb (length text) 16384 l)
rejected_answers text f (unread l r) =
    ap (λ b. typed (cond b (named (whole (length text) (signs_of text))) (Err (fault TooLong 0)))) (le-leb (length text) 16384 l)
    ∙ ap typed (out_refused text f (whole (length text) (signs_of text)) refl r)
rejected_answers text f (misnamed t l s w m) = ap typed (reads-named text t l s w ∙ ap (or_fault t) ((leastly text t f s).1 m))
rejected_answers text f (untyped {f = g} {p = p} t n i) = ap typed (reads-term text t n) ∙ ap (numbered (resolve [] t)) ((first nobody (resolve [] t) g p n.named.linear).1 i)
rejected_answers text f (no_number {A = A} t n d z) = ap typed (reads-term text t n) ∙ ap (numbered (resolve [] t)) (derived nobody (resolve [] t) [] A tt d) ∙ no_number_answer (resolve [] t) A z
rejected_answers text f (many_iterators t n d l) =
    ap typed (reads-term text t n) ∙ ap (numbered (resolve [] t)) (derived nobody (resolve [] t) [] N tt d)
    ∙ ap (λ b. cond b (Ok (resolve [] t)) (Err (fault ManyIterators 0))) (lt-leb (iterators (erase (resolve [] t))) 64 l)

pub rejected : RejectedExactly
rejected text f = (λ h. from_err text (answers text) f (answered text) h, λ h. rejected_answers text f h)

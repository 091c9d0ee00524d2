-- What reading a whole text gives, step by step.
use Rattle.std.proofs.Common.{◌≡◌, ℕ, ◌+◌, ◌-◌, ◌≤◌, List, [], ◌∷◌, length, Some, None, Ok, Err, vec_items, Option, sym, refl, ap, ◌∙◌, arith}
use Rattle.std.proofs.lemmas.Bool.{le-leb}
use Rattle.syntax.specs.declared.names.Rest.{Rest}
use Rattle.syntax.specs.declared.program.Subterm.{Subterm}
use Rattle.syntax.specs.declared.program.TypeCell.{TypeCell}
use Rattle.syntax.specs.declared.refusal.Fault.TheVariants.{WrongSign}
use Rattle.syntax.specs.declared.refusal.Refusal.{Refusal}
use Rattle.syntax.specs.declared.scope.Scope.{Scope}
use Rattle.syntax.specs.declared.tables.Program.{Program}
use Rattle.syntax.specs.Trees.{Name, Tree}
use Rattle.syntax.specs.Signs.{Placed, lex, signs_of}
use Rattle.syntax.specs.Parse.{Out, got, refused, refuse, term, whole}
use Rattle.syntax.specs.Names.{resolve, fault}
use Rattle.syntax.specs.Scopes.{Names, no_names, visit}
use Rattle.syntax.specs.Held.{names_of}
use Rattle.syntax.specs.Steps.{skipped, TermHeld, TermRead, begun, signed}
use Rattle.syntax.specs.Reads.{or_fault, named, reads}
use Rattle.syntax.specs.Answer.{Spans, Accepted}
use Rattle.syntax.proofs.Lexing.{signs_from, signs_none}
use Rattle.syntax.proofs.Agreement.{first-fault}
use Rattle.syntax.proofs.LayoutSteps.{laid_spans, span_denotes}

-- reading into empty memory
pub start : (end : ℕ) (s : List Placed) (subs : List Subterm) (cells : List TypeCell) (o : Out (Tree Name × ℕ × ℕ)) → subs ≡ [] → cells ≡ [] → term end (128 - 0) (length subs + 0) (length cells) s ≡ o → term end 128 0 0 s ≡ o
start end s subs cells o x y h = rw (x, y) at h

pub held_start : (subs₀ : List Subterm) (cells₀ : List TypeCell) (names₀ : Names) (subs : List Subterm) (cells : List TypeCell) (names : Names) (a : Tree Name × ℕ × ℕ) (i : ℕ) → subs₀ ≡ [] → cells₀ ≡ [] → names₀ ≡ no_names → TermHeld 0 subs₀ cells₀ names₀ subs cells names a i → TermHeld 0 [] [] no_names subs cells names a i
held_start subs₀ cells₀ names₀ subs cells names a i x y z h = rw (x, y, z) at h

module _ (text : List ℕ) (short : length text ≤ 16384) where
  within : reads text ≡ named (whole (length text) (signs_of text))
  within = let e = le-leb (length text) 16384 short in rw e refl

  pub stops : (f : Refusal) → term (length text) 128 0 0 (lex (length text) text) ≡ refused f → reads text ≡ Err f
  stops f e = within ∙ rw e refl

  module _ (a : Tree Name × ℕ × ℕ) (rest : List ℕ) (e : term (length text) 128 0 0 (lex (length text) text) ≡ got a (lex (length text) rest)) where
    goes_on : (left : List ℕ) → left ≡ skipped rest → 1 ≤ length left → whole (length text) (signs_of text) ≡ refuse WrongSign (length text - length left)
    goes_on [] k h = absurd (omega arith)
    goes_on (b ∷ u) k h = rw (e, signs_from (length text) rest (b ∷ u) u b k refl) refl

    pub more_signs : (left : List ℕ) → left ≡ skipped rest → 1 ≤ length left → reads text ≡ Err (fault WrongSign (length text - length left))
    more_signs left k h = within ∙ ap named (goes_on left k h)

    module _ (k : [] ≡ skipped rest) where
      all : whole (length text) (signs_of text) ≡ got a.0 []
      all = rw (e, signs_none (length text) rest k) refl

      pub name_fault_lem : (f : Refusal) → (visit a.0 no_names).least ≡ Some f → reads text ≡ Err f
      name_fault_lem f n = within ∙ ap named all ∙ ap (or_fault a.0) (sym (first-fault a.0) ∙ n)

      pub accepted : (subs : List Subterm) (cells : List TypeCell) (names : Names) (root : ℕ) → TermHeld 0 [] [] no_names subs cells names a root → (visit a.0 no_names).least ≡ None → Accepted text subs cells root
      accepted subs cells names root h n =
          let t = resolve [] a.0 in
          let lies = laid_spans t in
          let l : 0 ≤ length subs = omega arith in
          let spans : Spans subs cells 0 root t = rw (h.at, h.term, h.types) lies in
          record { tree = t; is = within ∙ ap named all ∙ ap (or_fault a.0) (sym (first-fault a.0) ∙ n); subterms = h.term; types = h.types; at = h.at; few = omega (arith, h.counted, h.few); few_types = omega (arith, h.signs, h.few_signs); denotes = span_denotes t subs cells 0 root spans; spans = spans }

-- a whole text was read into empty memory, and no sign is left: then names are asked
module _ (text : List ℕ) (short : length text ≤ 16384) (P P₁ : Program) (S S₁ : Scope) (r : ℕ × Rest) (subs : vec_items P.subterms ≡ []) (cells : vec_items P.types ≡ []) (none : names_of S ≡ no_names) (x : TermRead (length text) 0 P S P₁ S₁ (term (length text) (128 - 0) (begun 0 P) (signed P) (lex (length text) text)) (Ok r)) (over : [] ≡ skipped r.1.bytes.now) where
  read : term (length text) 128 0 0 (lex (length text) text) ≡ got x.gives.0 (lex (length text) r.1.bytes.now)
  read = start (length text) (lex (length text) text) (vec_items P.subterms) (vec_items P.types) (got x.gives.0 (lex (length text) r.1.bytes.now)) subs cells x.gives.1

  held : TermHeld 0 [] [] no_names (vec_items P₁.subterms) (vec_items P₁.types) (names_of S₁) x.gives.0 r.0
  held = held_start (vec_items P.subterms) (vec_items P.types) (names_of S) (vec_items P₁.subterms) (vec_items P₁.types) (names_of S₁) x.gives.0 r.0 subs cells none x.gives.2

  least : (o : Option Refusal) → S₁.least ≡ o → (visit x.gives.0.0 no_names).least ≡ o
  least o e = ap (λ (n : Names). n.least) (sym held.visited) ∙ e

  pub all_read : S₁.least ≡ None → Accepted text (vec_items P₁.subterms) (vec_items P₁.types) r.0
  all_read e = accepted text short x.gives.0 r.1.bytes.now read over (vec_items P₁.subterms) (vec_items P₁.types) (names_of S₁) r.0 held (least None e)

  pub misnamed : (f : Refusal) → S₁.least ≡ Some f → reads text ≡ Err f
  misnamed f e = name_fault_lem text short x.gives.0 r.1.bytes.now read over f (least (Some f) e)

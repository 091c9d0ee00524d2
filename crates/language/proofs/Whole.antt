-- A whole program: from its tree in memory to the answer of the questions on types.
use Rattle.std.proofs.Common.{◌≡◌, ℕ, ◌+◌, true, false, cond, leb, List, [], ◌∷◌, ◌++◌, length, Ok, Err, Result, sym, refl, ap, ◌∙◌, subst, arith, length-append}
use Rattle.std.proofs.lemmas.List.{get_or_push}
use Rattle.std.proofs.lemmas.Bool.Decides.{nat_tests}
use Rattle.calculus.specs.Types.{Ty, N, ◌⇒◌, ◌⊗◌}
use Rattle.calculus.specs.Terms.{iterators}
use Rattle.syntax.specs.Trees.{Tree, erase}
use Rattle.syntax.specs.Program.{DenotesType, Denotes}
use Rattle.syntax.specs.Names.{fault}
use Rattle.syntax.specs.Answer.{Spans, Accepted}
use Rattle.syntax.specs.declared.program.TypeCell.{TypeCell}
use Rattle.syntax.specs.declared.program.TypeCell.TheVariants as kind
use Rattle.syntax.specs.declared.program.Subterm.{Subterm}
use Rattle.syntax.specs.declared.refusal.Refusal.{Refusal}
use Rattle.syntax.specs.declared.refusal.Fault.TheVariants.{NoNumber, ManyIterators}
use Rattle.language.specs.declared.checker.Checker.{Checker}
use Rattle.language.specs.declared.counts.Facts.{Facts}
use Rattle.language.specs.Infer.{good, infer}
use Rattle.language.specs.Measures.{IsType}
use Rattle.language.specs.Judgements.{Judgement, judgements, type_of, nobody, Low}
use Rattle.language.specs.Checks.{cells_of, typings_of, context_of, Begun, Knows, Lists, Ready, Typed, Checks}
use Rattle.language.specs.Counts.{Countable, Counts, Limited}
use Rattle.language.specs.Accepts.{Numbers, numbered, Known, Given, Concludes}
use Rattle.language.proofs.Shapes.{tree_more, spans_more, spans_count, there}
use Rattle.language.proofs.Walk.{trees_last, lists_length}
use Rattle.language.proofs.Inferring.{judged_all, sound}
use Rattle.language.proofs.Sums.{said, iterators-counted, successors-counted}

module _ {cells : List TypeCell} {m : Checker} (b : Begun cells m) where
  number_is : DenotesType (cells_of m) m.number N
  number_is = subst (λ n. DenotesType (cells_of m) n N) (sym b.number) (subst (λ cs. DenotesType cs (length cells) N) (sym b.types) (omega (arith, length-append cells (kind.N ∷ [])), get_or_push cells kind.N kind.N (length cells) refl))

  knows_nobody : Knows (cells_of m) m.number (context_of m) nobody
  knows_nobody = subst (λ hs. Knows (cells_of m) m.number hs nobody) (sym b.context) (λ x. number_is)

  at_begin : (subs : List Subterm) (root : ℕ) (t : Tree ℕ) → Denotes subs cells root t → Denotes subs (cells_of m) root t
  at_begin subs root t d = subst (λ cs. Denotes subs cs root t) (sym b.types) (tree_more t subs cells (kind.N ∷ []) root d)

module _ {subs : List Subterm} {cells : List TypeCell} {root : ℕ} {m : Checker} (b : Begun cells m) where
  pub whole_ready : Given subs cells root → Ready subs root m
  whole_ready g =
      let n : length (cells_of m) ≡ length cells + 1 = ap length b.types ∙ simp length-append (omega arith) in
      record {
        tree = g.tree;
        env = nobody;
        denotes = at_begin b subs root g.tree g.denotes;
        knows = (knows_nobody b);
        numbered = (number_is b);
        types_room = omega (arith, n, g.few, g.short);
        typing_room = omega (arith, ap length b.typings, g.few);
        context_room = omega (arith, ap length b.context, g.few);
      }

  -- refused before the program's own type is asked
  pub whole_stop : {m' : Checker} {z : Refusal} → Checks subs root m m' (Err z) → (t : Tree ℕ) → Denotes subs cells root t → Spans subs cells 0 root t → numbered t (infer nobody t) ≡ Err z
  whole_stop h t d sp = ap (numbered t) (h.outcome t nobody (at_begin b subs root t d) (knows_nobody b))

  module _ {m' : Checker} {c : ℕ} (h : Checks subs root m m' (Ok c)) where
    typed : (t : Tree ℕ) → Denotes subs cells root t → Typed subs t nobody m m' c
    typed t d = h.outcome t nobody (at_begin b subs root t d) (knows_nobody b)

    pub whole_type : Given subs cells root → IsType (cells_of m') c
    whole_type g = (type_of nobody g.tree, (typed g.tree g.denotes).denotes)

    all_lists : (t : Tree ℕ) → Denotes subs cells root t → Lists subs (cells_of m') (typings_of m') (judgements nobody t)
    all_lists t d =
        let w = typed t d in
        let e : w.new ≡ typings_of m' = sym (w.grown.typings ∙ ap (λ xs. xs ++ w.new) b.typings) in
        subst (λ xs. Lists subs (cells_of m') xs (judgements nobody t)) e w.lists

    low : (t : Tree ℕ) → Denotes subs cells root t → Low (judgements nobody t)
    low t d = (sound nobody t (type_of nobody t) (typed t d).infers).low

    pub whole_countable : Given subs cells root → Countable subs (cells_of m') (typings_of m')
    whole_countable g =
        record {
          judged = judgements nobody g.tree;
          lists = all_lists g.tree g.denotes;
          low = low g.tree g.denotes;
          few = omega (arith, lists_length subs (cells_of m') (typings_of m') (judgements nobody g.tree) (all_lists g.tree g.denotes), judged_all nobody g.tree, g.few);
        }

    -- the program's type is not N
    other : (t : Tree ℕ) (A : Ty) → (A ≡ N → ⊥) → numbered t (good A) ≡ Err (fault NoNumber 0)
    other t N f = absurd (f refl)
    other t (A ⇒ B) f = refl
    other t (A ⊗ B) f = refl

    pub whole_other : (z : Refusal) → ((A : Ty) → DenotesType (cells_of m') c A → Numbers A (Err z)) → (t : Tree ℕ) → Denotes subs cells root t → Spans subs cells 0 root t → numbered t (infer nobody t) ≡ Err z
    whole_other z asked t d sp =
        let w = typed t d in
        let q = asked (type_of nobody t) w.denotes in
        ap (numbered t) w.infers ∙ (other t (type_of nobody t) q.1 ∙ ap Err (sym q.0))

    known : (t : Tree ℕ) (f : Facts) → Counts (judgements nobody t) f → Known t f
    known t f k =
        record {
          tall = λ d. k.height ∙ sym (said nobody t d tt).tall;
          weighs = λ d. k.weight ∙ sym (said nobody t d tt).weighs;
          subterms = k.subterms ∙ judged_all nobody t;
          iterators = k.iterators ∙ iterators-counted nobody t;
          successors = k.successors ∙ successors-counted nobody t;
          height = k.height;
          weight = k.weight;
        }

    -- the program's type is N, and r has its counts or says that its iterators are many
    module _ (q : (A : Ty) → DenotesType (cells_of m') c A → A ≡ N) where
      is : (t : Tree ℕ) → Denotes subs cells root t → infer nobody t ≡ good N
      is t d = let w = typed t d in w.infers ∙ ap good (q (type_of nobody t) w.denotes)

      spans_last : (t : Tree ℕ) → Denotes subs cells root t → Spans subs cells 0 root t → Spans subs (cells_of m') 0 root t
      spans_last t d sp =
          let g = (typed t d).grown in
          let begun : Spans subs (cells_of m) 0 root t = subst (λ cs. Spans subs cs 0 root t) (sym b.types) (spans_more t subs cells (kind.N ∷ []) 0 root sp) in
          subst (λ cs. Spans subs cs 0 root t) (sym g.cells) (spans_more t subs (cells_of m) g.more 0 root begun)

      pub whole_done : (r : Result Facts Refusal) → ((js : List Judgement) → Lists subs (cells_of m') (typings_of m') js → Low js → Limited js r) → (t : Tree ℕ) → Denotes subs cells root t → Spans subs cells 0 root t → Concludes subs root t (cells_of m') (typings_of m') r
      whole_done r limited t d sp = by r (limited (judgements nobody t) (all_lists t d) (low t d))
        where
          by : (r : Result Facts Refusal) → Limited (judgements nobody t) r → Concludes subs root t (cells_of m') (typings_of m') r
          by (Ok f) l =
              let few : leb (iterators (erase t)) 64 ≡ true = let n = iterators-counted nobody t in let le = l.1 in grind (arith, nat_tests) in
              (ap (numbered t) (is t d) ∙ ap (λ v. cond v (Ok t) (Err (fault ManyIterators 0))) few, record { denotes = trees_last (typed t d).grown subs t root (at_begin b subs root t d); spans = spans_last t d sp; types = all_lists t d; facts = known t f l.0 })
          by (Err x) l =
              let many : leb (iterators (erase t)) 64 ≡ false = let n = iterators-counted nobody t in let lt = l.1 in grind (arith, nat_tests) in
              ap (numbered t) (is t d) ∙ (ap (λ v. cond v (Ok t) (Err (fault ManyIterators 0))) many ∙ ap Err (sym l.0))

-- a text that is read is in memory as the checker asks
pub read_given : (bytes : List ℕ) (subs : List Subterm) (cells : List TypeCell) (root : ℕ) → Accepted bytes subs cells root → Given subs cells root
read_given bytes subs cells root a =
    record {
      tree = a.tree;
      denotes = a.denotes;
      few = omega (arith, spans_count a.tree subs cells 0 root a.spans, there subs cells root a.tree a.denotes, a.few);
      short = a.few_types;
    }

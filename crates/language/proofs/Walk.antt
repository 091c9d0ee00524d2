-- A check goes from part to part: what it has added so far, and what it still has room for.
use Rattle.std.proofs.Common.{◌≡◌, ℕ, suc, ◌+◌, ◌*◌, ◌<◌, ◌≤◌, Bool, true, false, cond, eqb, List, [], ◌∷◌, ◌++◌, length, get_or, take, Ok, Err, vec_items, Result, sym, refl, ap, ◌∙◌, subst, append_assoc, append-nil, arith, length-append, take_all}
use lib.Seq.{take-append-le}
use Rattle.std.specs.Result.{IsErrAnd}
use Rattle.std.proofs.lemmas.List.{get_or_default}
use Rattle.std.proofs.lemmas.Result.{err_from_is_err_and}
use Rattle.calculus.specs.Types.{Ty, N}
use Rattle.calculus.specs.Terms.{subterms}
use Rattle.syntax.specs.Trees.{Tree, erase}
use Rattle.syntax.specs.Program.{DenotesType, Denotes}
use Rattle.syntax.specs.declared.program.TypeCell.{TypeCell}
use Rattle.syntax.specs.declared.program.Subterm.{Subterm}
use Rattle.syntax.specs.declared.refusal.Refusal.{Refusal}
use Rattle.language.specs.declared.checker.Checker.{Checker}
use Rattle.language.specs.declared.context.Hypothesis.{Hypothesis}
use Rattle.language.specs.declared.typing.Typing.{Typing}
use Rattle.language.specs.Infer.{Checked, good, bad, within, infer, Env, put}
use Rattle.language.specs.Measures.{type_room, IsType}
use Rattle.language.specs.Judgements.{Judgement, judge, judgements, type_of}
use Rattle.language.specs.Hypotheses.{cell_of}
use Rattle.language.specs.Checks.{cells_of, typings_of, context_of, Knows, Lists, Agrees, Gives, Ready, Grown, Typed, Outcome, Checks, Built, Ruled, Infers, Noted}
use Rattle.language.proofs.Cells.{denotes_more}
use Rattle.language.proofs.Shapes.{blank, there, tree_more}
use Rattle.language.proofs.Hypotheses.{cell_of_push}
use Rattle.language.proofs.Inferring.{inferred, judged_all}

-- what the memory holds at m' it held at m
pub types-last : {n : ℕ} {new : List Typing} {m m' : Checker} → Grown n new m m' → (A : Ty) (c : ℕ) → DenotesType (cells_of m) c A → DenotesType (cells_of m') c A
types-last {m = m} g A c d = subst (λ cs. DenotesType cs c A) (sym g.cells) (denotes_more A (cells_of m) g.more c d)

pub trees_last : {n : ℕ} {new : List Typing} {m m' : Checker} → Grown n new m m' → (subs : List Subterm) (t : Tree ℕ) (i : ℕ) → Denotes subs (cells_of m) i t → Denotes subs (cells_of m') i t
trees_last {m = m} g subs t i d = subst (λ cs. Denotes subs cs i t) (sym g.cells) (tree_more t subs (cells_of m) g.more i d)

pub knows_last : {n : ℕ} {new : List Typing} {m m' : Checker} → Grown n new m m' → (e : Env) → Knows (cells_of m) m.number (context_of m) e → Knows (cells_of m') m'.number (context_of m') e
knows_last {m = m} {m' = m'} g e k b =
    let same_cell : cell_of m.number (context_of m) b ≡ cell_of m'.number (context_of m') b = ap (λ d. cell_of d (context_of m) b) (sym g.number) ∙ ap (λ hs. cell_of m'.number hs b) (sym g.context) in
    subst (λ c. DenotesType (cells_of m') c (e b)) same_cell (types-last g (e b) (cell_of m.number (context_of m) b) (k b))

lists_more : (subs : List Subterm) (cells more : List TypeCell) (xs : List Typing) (js : List Judgement) → Lists subs cells xs js → Lists subs (cells ++ more) xs js
lists_more subs cells more [] [] h = tt
lists_more subs cells more [] (j ∷ js) h = absurd h
lists_more subs cells more (x ∷ xs) [] h = absurd h
lists_more subs cells more (x ∷ xs) (j ∷ js) h =
    (record { term = tree_more j.subject subs cells more x.subterm h.0.term; type = denotes_more j.type cells more x.cell h.0.type }, lists_more subs cells more xs js h.1)

pub lists_append : (subs : List Subterm) (cells : List TypeCell) (xs ys : List Typing) (js ks : List Judgement) → Lists subs cells xs js → Lists subs cells ys ks → Lists subs cells (xs ++ ys) (js ++ ks)
lists_append subs cells [] ys [] ks h g = g
lists_append subs cells [] ys (j ∷ js) ks h g = absurd h
lists_append subs cells (x ∷ xs) ys [] ks h g = absurd h
lists_append subs cells (x ∷ xs) ys (j ∷ js) ks h g = (h.0, lists_append subs cells xs ys js ks h.1 g)

pub lists_length : (subs : List Subterm) (cells : List TypeCell) (xs : List Typing) (js : List Judgement) → Lists subs cells xs js → length xs ≡ length js
lists_length subs cells [] [] h = refl
lists_length subs cells [] (j ∷ js) h = absurd h
lists_length subs cells (x ∷ xs) [] h = absurd h
lists_length subs cells (x ∷ xs) (j ∷ js) h = ap suc (lists_length subs cells xs js h.1)

-- what was added since m: at most k cells, and typings for these judgements
pub record Sofar (subs : List Subterm) (k : ℕ) (js : List Judgement) (m m' : Checker) : Type 0 where
  pub new : List Typing
  pub lists : Lists subs (cells_of m') new js
  pub grown : Grown k new m m'

pub nothing_yet : (subs : List Subterm) (m : Checker) → Sofar subs 0 [] m m
nothing_yet subs m = record { new = []; lists = tt; grown = record { more = []; cells = sym (append-nil (cells_of m)); few = omega arith; typings = sym (append-nil (typings_of m)); context = refl; number = refl } }

pub of_typed : {subs : List Subterm} {t : Tree ℕ} {e : Env} {m m' : Checker} {c : ℕ} → Typed subs t e m m' c → Sofar subs (subterms (erase t)) (judgements e t) m m'
of_typed h = record { new = h.new; lists = h.lists; grown = h.grown }

pub and_then : {subs : List Subterm} {k l : ℕ} {js ks : List Judgement} {m m' m'' : Checker} → Sofar subs k js m m' → Sofar subs l ks m' m'' → Sofar subs (k + l) (js ++ ks) m m''
and_then {subs = subs} {js = js} {ks = ks} {m = m} {m' = m'} {m'' = m''} f g =
    let gf = f.grown in
    let gg = g.grown in
    record {
      new = f.new ++ g.new;
      lists = lists_append subs (cells_of m'') f.new g.new js ks (subst (λ cs. Lists subs cs f.new js) (sym gg.cells) (lists_more subs (cells_of m') gg.more f.new js f.lists)) g.lists;
      grown = record {
        more = gf.more ++ gg.more;
        cells = gg.cells ∙ (ap (λ cs. cs ++ gg.more) gf.cells ∙ append_assoc (cells_of m) gf.more gg.more);
        few = simp length-append (omega (arith, gf.few, gg.few));
        typings = gg.typings ∙ (ap (λ xs. xs ++ g.new) gf.typings ∙ append_assoc (typings_of m) f.new g.new);
        context = gg.context ∙ gf.context;
        number = gg.number ∙ gf.number;
      };
    }

-- these cells were added, and nothing else changed
pub record Extended (xs : List TypeCell) (m m' : Checker) : Type 0 where
  pub cells : cells_of m' ≡ cells_of m ++ xs
  pub typings : typings_of m' ≡ typings_of m
  pub context : context_of m' ≡ context_of m
  pub number : m'.number ≡ m.number

pub extended : {subs : List Subterm} {k : ℕ} {js : List Judgement} {xs : List TypeCell} {m m' m'' : Checker} → Sofar subs k js m m' → Extended xs m' m'' → Sofar subs (k + length xs) js m m''
extended {subs = subs} {js = js} {xs = xs} {m = m} {m' = m'} f h =
    let gf = f.grown in
    record {
      new = f.new;
      lists = subst (λ cs. Lists subs cs f.new js) (sym h.cells) (lists_more subs (cells_of m') xs f.new js f.lists);
      grown = record {
        more = gf.more ++ xs;
        cells = h.cells ∙ (ap (λ cs. cs ++ xs) gf.cells ∙ append_assoc (cells_of m) gf.more xs);
        few = simp length-append (omega (arith, gf.few));
        typings = h.typings ∙ gf.typings;
        context = h.context ∙ gf.context;
        number = h.number ∙ gf.number;
      };
    }

-- these hypotheses came into force, and nothing else changed
pub record Bound (hs : List Hypothesis) (m m' : Checker) : Type 0 where
  pub types : cells_of m' ≡ cells_of m
  pub typings : typings_of m' ≡ typings_of m
  pub context : context_of m' ≡ context_of m ++ hs
  pub number : m'.number ≡ m.number

take_front : (xs ys : List Hypothesis) (n : ℕ) → n ≡ length xs → take n (xs ++ ys) ≡ xs
take_front xs ys n e =
    let le : n ≤ length xs = omega arith in
    let ge : length xs ≤ n = omega arith in
    take-append-le n xs ys le ∙ take_all n xs ge

-- they went out of force, and these cells were added
pub record Released (n : ℕ) (xs : List TypeCell) (m m' : Checker) : Type 0 where
  pub cells : cells_of m' ≡ cells_of m ++ xs
  pub typings : typings_of m' ≡ typings_of m
  pub context : context_of m' ≡ take n (context_of m)
  pub number : m'.number ≡ m.number

pub under : {subs : List Subterm} {k n : ℕ} {js : List Judgement} {hs : List Hypothesis} {xs : List TypeCell} {m b b' m' : Checker} → Bound hs m b → Sofar subs k js b b' → n ≡ length (context_of m) → Released n xs b' m' → Sofar subs (k + length xs) js m m'
under {subs = subs} {n = n} {js = js} {hs = hs} {xs = xs} {m = m} {b' = b'} h f e r =
    let g = f.grown in
    record {
      new = f.new;
      lists = subst (λ cs. Lists subs cs f.new js) (sym r.cells) (lists_more subs (cells_of b') xs f.new js f.lists);
      grown = record {
        more = g.more ++ xs;
        cells = r.cells ∙ (ap (λ cs. cs ++ xs) (g.cells ∙ ap (λ cs. cs ++ g.more) h.types) ∙ append_assoc (cells_of m) g.more xs);
        few = simp length-append (omega (arith, g.few));
        typings = r.typings ∙ (g.typings ∙ ap (λ ts. ts ++ f.new) h.typings);
        context = r.context ∙ (ap (take n) (g.context ∙ h.context) ∙ take_front (context_of m) hs n e);
        number = r.number ∙ (g.number ∙ h.number);
      };
    }

-- a hypothesis of the type T, under which a tree is checked
pub knows_more : (cells : List TypeCell) (d : ℕ) (hs : List Hypothesis) (h : Hypothesis) (e : Env) (T : Ty) (x : ℕ) → x ≡ h.binder → Knows cells d hs e → DenotesType cells h.cell T → Knows cells d (hs ++ (h ∷ [])) (put e x T)
knows_more cells d hs h e T x q k f y =
    subst (λ c. DenotesType cells c (put e x T y)) (sym (cell_of_push d hs h y)) (subst (λ v. DenotesType cells (cond (eqb h.binder y) h.cell (cell_of d hs y)) (put e v T y)) (sym q) (by (eqb h.binder y)))
  where
    by : (s : Bool) → DenotesType cells (cond s h.cell (cell_of d hs y)) (cond s T (e y))
    by true = f
    by false = k y

pub knows_under : {hs : List Hypothesis} {m b : Checker} (e : Env) → Bound hs m b → Knows (cells_of m) m.number (context_of m ++ hs) e → Knows (cells_of b) b.number (context_of b) e
knows_under {hs} {m} {b} e f k y =
    subst (λ cs. DenotesType cs (cell_of b.number (context_of b) y) (e y)) (sym f.types) (subst (λ n. DenotesType (cells_of m) n (e y)) (sym (ap (λ n. cell_of n (context_of b) y) f.number ∙ ap (λ gs. cell_of m.number gs y) f.context)) (k y))

-- room for what is still to be checked
module _ (subs : List Subterm) (i : ℕ) (m₀ : Checker) (r : Ready subs i m₀) (k : ℕ) (js : List Judgement) (m : Checker) (f : Sofar subs k js m₀ m) where
  pub cells_so_far : length (cells_of m) ≤ length (cells_of m₀) + k
  cells_so_far = let g = f.grown in omega (arith, g.few, simp length-append at (ap length g.cells))

  pub typings_so_far : length (typings_of m) ≡ length (typings_of m₀) + length js
  typings_so_far = let g = f.grown in omega (arith, lists_length subs (cells_of m) f.new js f.lists, simp length-append at (ap length g.typings))

  pub context_so_far : length (context_of m) ≡ length (context_of m₀)
  context_so_far = ap length f.grown.context

  pub type_space : k < subterms (erase r.tree) → length (cells_of m) < type_room
  type_space h = omega (arith, cells_so_far, r.types_room)

  pub context_space : (n : ℕ) → n < 2 * subterms (erase r.tree) → length (context_of m) + n < 4096
  context_space n h = omega (arith, context_so_far, r.context_room)

  abbrev pub ready_next : (j : ℕ) (t : Tree ℕ) → Denotes subs (cells_of m₀) j t → k + subterms (erase t) ≤ subterms (erase r.tree) → length js + subterms (erase t) ≤ subterms (erase r.tree) → Ready subs j m
  ready_next j t d h n =
      let g = f.grown in
      record {
        tree = t;
        env = r.env;
        denotes = trees_last g subs t j d;
        knows = knows_last g r.env r.knows;
        numbered = subst (λ c. DenotesType (cells_of m) c N) (sym g.number) (types-last g N m₀.number r.numbered);
        types_room = omega (arith, cells_so_far, r.types_room);
        typing_room = omega (arith, typings_so_far, r.typing_room);
        context_room = omega (arith, context_so_far, r.context_room);
      }

abbrev pub ready_under : {subs : List Subterm} {j : ℕ} {m b : Checker} {hs : List Hypothesis} (e : Env) → (r : Ready subs j m) → Bound hs m b → Knows (cells_of m) m.number (context_of m ++ hs) e → length (context_of m) + (length hs + 2 * subterms (erase r.tree)) ≤ 4096 → Ready subs j b
ready_under {subs} {j} {m} {b} {hs} e r f k n =
    record {
      tree = r.tree;
      env = e;
      denotes = subst (λ cs. Denotes subs cs j r.tree) (sym f.types) r.denotes;
      knows = knows_under e f k;
      numbered = subst (λ c. DenotesType (cells_of b) c N) (sym f.number) (subst (λ cs. DenotesType cs m.number N) (sym f.types) r.numbered);
      types_room = omega (arith, ap length f.types, r.types_room);
      typing_room = omega (arith, ap length f.typings, r.typing_room);
      context_room = omega (arith, simp length-append at (ap length f.context));
    }

-- the whole, once its parts are checked and its rule is asked
pub ruled : {subs : List Subterm} {k : ℕ} {js : List Judgement} {m₀ m : Checker} (p : ℕ) (t u : Tree ℕ) (e : Env) (r : Result ℕ Refusal) (x : Checked) → t ≡ u → infer e u ≡ x → Gives (cells_of m) p x r → Sofar subs k js m₀ m → k ≤ subterms (erase u) → judgements e u ≡ js ++ (judge e u ∷ []) → Ruled subs p t e m₀ m r
ruled {subs} {js = js} {m₀ = m₀} {m = m} p t u e r x is q gives s l j = subst (λ v. Ruled subs p v e m₀ m r) (sym is) (by r gives)
  where
    by : (r : Result ℕ Refusal) → Gives (cells_of m) p x r → Ruled subs p u e m₀ m r
    by (Ok c) (A, d, g) =
        let h = s.grown in
        record { type = A; denotes = d; infers = q ∙ g; parts = js; judged = j; new = s.new; lists = s.lists; grown = record { more = h.more; cells = h.cells; few = omega (arith, h.few); typings = h.typings; context = h.context; number = h.number } }
    by (Err y) g = q ∙ g

-- what is asked of a whole at last: whether its type is low
module _ {subs : List Subterm} {i : ℕ} {m₀ : Checker} where
  pub inside_of : Ready subs i m₀ → i < length subs
  inside_of r = there subs (cells_of m₀) i r.tree r.denotes

  module _ {m : Checker} {c : ℕ} (r : Ready subs i m₀) (h : Infers subs i m₀ m (Ok c)) where
    pub asks_type : IsType (cells_of m) c
    asks_type = let b = h.outcome r.tree r.env r.denotes r.knows in (b.type, b.denotes)

    pub asks_room : length (typings_of m) < 2048
    asks_room =
        let b = h.outcome r.tree r.env r.denotes r.knows in
        omega (arith, lists_length subs (cells_of m) b.new b.parts b.lists, judged_all r.env r.tree, simp length-append at (ap length b.judged), simp length-append at (ap length b.grown.typings), r.typing_room)

  -- what a `?` gives back
  pub failed : {m : Checker} {z : Refusal} {r : Result ℕ Refusal} → IsErrAnd r (λ y. y ≡ z) → Infers subs i m₀ m (Err z) → Infers subs i m₀ m r
  failed {r = r} e h = let p = err_from_is_err_and r e in rw (p.1, p.2) h

  pub stopped : {m : Checker} {z : Refusal} {r : Result ℕ Refusal} → IsErrAnd r (λ y. y ≡ z) → Infers subs i m₀ m (Err z) → Checks subs i m₀ m r
  stopped {r = r} e h = let p = err_from_is_err_and r e in rw (p.1, p.2) (record { outcome = h.outcome })

  pub judged : {m m' : Checker} {c : ℕ} {r : Result ℕ Refusal} (d : Subterm) → Ready subs i m₀ → Infers subs i m₀ m (Ok c) → ((A : Ty) → DenotesType (cells_of m) c A → Agrees (cells_of m) r (within (get_or subs i d).place A)) → Noted i m m' r → Checks subs i m₀ m' r
  judged {m} {m'} {c} {r} d ready h agrees noted =
      record {
        outcome = λ t e w k.
            let b = h.outcome t e w k in
            let p : (get_or subs i d).place ≡ (get_or subs i blank).place = ap (λ y. y.place) (get_or_default subs i d blank (inside_of ready)) in
            by r t e w b (subst (λ q. Agrees (cells_of m) r (within q b.type)) p (agrees b.type b.denotes)) noted;
      }
    where
      answer : (t : Tree ℕ) (e : Env) (b : Built subs (get_or subs i blank).place t e m₀ m c) (r : Result ℕ Refusal) (x : Checked) → infer e t ≡ x → Denotes subs (cells_of m₀) i t → Agrees (cells_of m) r x → Noted i m m' r → Outcome subs t e m₀ m' r
      answer t e b (Ok c') (bad f p) q w a n = absurd a
      answer t e b (Err y) (good A) q w a n = absurd a
      answer t e b (Err y) (bad f p) q w a n = q ∙ cc (a.0, a.1)
      answer t e b (Ok c') (good A) q w a n =
          let is : A ≡ type_of e t = inferred e t A q in
          let g = b.grown in
          let cells : cells_of m' ≡ cells_of m = ap (λ ts. vec_items ts.cells) n.0 in
          let here : DenotesType (cells_of m') c' (type_of e t) = subst (λ cs. DenotesType cs c' (type_of e t)) (sym cells) (subst (DenotesType (cells_of m) c') is a) in
          let this : Denotes subs (cells_of m') i t = subst (λ cs. Denotes subs cs i t) (sym cells) (trees_last g subs t i w) in
          let before : Lists subs (cells_of m') b.new b.parts = subst (λ cs. Lists subs cs b.new b.parts) (sym cells) b.lists in
          let last : Lists subs (cells_of m') (record { subterm = i; cell = c' } ∷ []) (judge e t ∷ []) = (record { term = this; type = here }, tt) in
          record {
            infers = q ∙ ap good is;
            denotes = here;
            new = b.new ++ (record { subterm = i; cell = c' } ∷ []);
            lists = subst (Lists subs (cells_of m') (b.new ++ (record { subterm = i; cell = c' } ∷ []))) (sym b.judged) (lists_append subs (cells_of m') b.new (record { subterm = i; cell = c' } ∷ []) b.parts (judge e t ∷ []) before last);
            grown = record {
              more = g.more;
              cells = cells ∙ g.cells;
              few = omega (arith, g.few);
              typings = n.1 ∙ (ap (λ xs. xs ++ (record { subterm = i; cell = c' } ∷ [])) g.typings ∙ append_assoc (typings_of m₀) b.new (record { subterm = i; cell = c' } ∷ []));
              context = ap (λ k. vec_items k.hypotheses) n.2 ∙ g.context;
              number = n.3 ∙ g.number;
            };
          }

      by : (r : Result ℕ Refusal) (t : Tree ℕ) (e : Env) → Denotes subs (cells_of m₀) i t → (b : Built subs (get_or subs i blank).place t e m₀ m c) → Agrees (cells_of m) r (within (get_or subs i blank).place b.type) → Noted i m m' r → Outcome subs t e m₀ m' r
      by r t e w b a n = answer t e b r _ b.infers w a n

-- The variables in force: one more, and the innermost of a name.
use Rattle.std.proofs.Common.{◌≡◌, ℕ, Bool, true, false, cond, eqb, List, [], ◌∷◌, ◌++◌, Some, None, Option, reverse, refl, ap, ◌∙◌, unwrap_or, option_map}
use Rattle.std.specs.List.{find}
use Rattle.std.proofs.lemmas.List.{reverse-append}
use Rattle.language.specs.declared.context.Hypothesis.{Hypothesis}
use Rattle.language.specs.Hypotheses.{cell_of}

-- one more hypothesis
pub cell_of_push : (d : ℕ) (hs : List Hypothesis) (h : Hypothesis) (b : ℕ) → cell_of d (hs ++ (h ∷ [])) b ≡ cond (eqb h.binder b) h.cell (cell_of d hs b)
cell_of_push d [] h b = refl
cell_of_push d (g ∷ hs) h b = cell_of_push (cond (eqb g.binder b) g.cell d) hs h b

-- the innermost is the first from the end
abbrev pub first_cell : List Hypothesis → ℕ → ℕ → ℕ
first_cell hs b d = unwrap_or (option_map (λ h. h.cell) (find (λ h. eqb h.binder b) hs)) d

one_more : (t : Bool) (h : Hypothesis) (d : ℕ) → unwrap_or (option_map (λ g. g.cell) (cond t (Some h) None)) d ≡ cond t h.cell d
one_more true h d = refl
one_more false h d = refl

kept : (t : Bool) (g : Hypothesis) (r s : Option Hypothesis) (d e : ℕ) → unwrap_or (option_map (λ k. k.cell) r) d ≡ unwrap_or (option_map (λ k. k.cell) s) e → unwrap_or (option_map (λ k. k.cell) (cond t (Some g) r)) d ≡ unwrap_or (option_map (λ k. k.cell) (cond t (Some g) s)) e
kept true g r s d e h = refl
kept false g r s d e h = h

first_push : (hs : List Hypothesis) (h : Hypothesis) (b d : ℕ) → first_cell (hs ++ (h ∷ [])) b d ≡ first_cell hs b (cond (eqb h.binder b) h.cell d)
first_push [] h b d = one_more (eqb h.binder b) h d
first_push (g ∷ hs) h b d = kept (eqb g.binder b) g _ _ _ _ (first_push hs h b d)

pub cell_of_found : (d : ℕ) (hs : List Hypothesis) (b : ℕ) → first_cell (reverse hs) b d ≡ cell_of d hs b
cell_of_found d [] b = refl
cell_of_found d (h ∷ hs) b =
    ap (λ gs. first_cell gs b d) (reverse-append (h ∷ []) hs) ∙ (first_push (reverse hs) h b d ∙ cell_of_found (cond (eqb h.binder b) h.cell d) hs b)

-- What reading a term gives, step by step.
use Rattle.std.proofs.Common.{◌≡◌, ℕ, suc, ◌+◌, ◌-◌, ◌<◌, ◌≤◌, Bool, true, false, ◌⊎◌, List, length, get_or, Some, None, Ok, Err, sym, refl, ap, ◌∙◌, subst, inl, inr, arith}
use lib.Seq.{map-set_same}
use Rattle.std.proofs.lemmas.Bool.{cases_lt, lt-ltb, le-ltb}
use Rattle.syntax.specs.declared.names.First.{First}
use Rattle.syntax.specs.declared.names.Rest.{Rest}
use Rattle.syntax.specs.declared.program.Subterm.{Subterm}
use Rattle.syntax.specs.declared.program.TypeCell.{TypeCell}
use Rattle.syntax.specs.declared.refusal.Fault.TheVariants.{WrongSign, PassedLimit, Unbound}
use Rattle.syntax.specs.declared.refusal.Refusal.{Refusal}
use Rattle.syntax.specs.Trees.{Name, Tree}
use Rattle.syntax.specs.Names.{fault}
use Rattle.syntax.specs.Signs.{Placed, lex}
use Rattle.syntax.specs.Parse.{refused, refuse, term_by, term}
use Rattle.syntax.specs.Scopes.{InForce, Names, found, nobody, note, use_at, occur}
use Rattle.syntax.specs.Held.{binders_of}
use Rattle.syntax.specs.Steps.{skipped, by_first, Opens, TermHeld}
use Rattle.syntax.proofs.Lexing.{lex-skipped}

pub held_as : (d : ℕ) (s : List Subterm) (c : List TypeCell) (n : Names) (s' : List Subterm) (c' : List TypeCell) (n' : Names) (s'' : List Subterm) (c'' : List TypeCell) (n'' : Names) (a : Tree Name × ℕ × ℕ) (i i'' : ℕ) → TermHeld d s c n s' c' n' a i → s'' ≡ s' → c'' ≡ c' → n'' ≡ n' → i'' ≡ i → TermHeld d s c n s'' c'' n'' a i''
held_as d s c n s' c' n' s'' c'' n'' a i i'' h e₁ e₂ e₃ e₄ = rw (e₁, e₂, e₃, e₄) h

pub held_from : (d : ℕ) (s : List Subterm) (c : List TypeCell) (n m : Names) (s' : List Subterm) (c' : List TypeCell) (n' : Names) (a : Tree Name × ℕ × ℕ) (i : ℕ) → n ≡ m → TermHeld d s c n s' c' n' a i → TermHeld d s c m s' c' n' a i
held_from d s c n m s' c' n' a i e h = subst (λ (k : Names). TermHeld d s c k s' c' n' a i) e h

term_suc : (end k l n m : ℕ) (s : List Placed) → k ≡ suc l → term end k n m s ≡ term_by end true (term end l) n m s
unfolding term
term_suc end k l n m s e = rw e refl

term_zero : (end k n m : ℕ) (s : List Placed) → k ≡ 0 → term end k n m s ≡ term_by end false (λ a b r. refuse WrongSign end) n m s
unfolding term
term_zero end k n m s e = rw e refl

module _ (end depth n m : ℕ) (text rest : List ℕ) (e : rest ≡ skipped text) where
  here : lex end text ≡ lex end rest
  here = sym (lex-skipped end text) ∙ ap (lex end) (sym e)

  down : depth < 128 → term end (128 - depth) n m (lex end text) ≡ term_by end true (term end (128 - (depth + 1))) n m (lex end rest)
  down h = ap (term end (128 - depth) n m) here ∙ term_suc end (128 - depth) (128 - (depth + 1)) n m (lex end rest) (omega arith)

  bottom : 128 ≤ depth → term end (128 - depth) n m (lex end text) ≡ term_by end false (λ a b r. refuse WrongSign end) n m (lex end rest)
  bottom h = ap (term end (128 - depth) n m) here ∙ term_zero end (128 - depth) n m (lex end rest) (omega arith)

  pub first_refused : (f : Refusal) → Opens end rest (Err f) → term end (128 - depth) n m (lex end text) ≡ refused f
  first_refused f o = go (cases_lt depth 128)
    where
      go : (depth < 128) ⊎ (128 ≤ depth) → term end (128 - depth) n m (lex end text) ≡ refused f
      go (inl h) = down h ∙ o true (term end (128 - (depth + 1))) n m
      go (inr h) = bottom h ∙ o false (λ a b r. refuse WrongSign end) n m

  module _ (r : First × Rest) (o : Opens end rest (Ok r)) where
    pub first_full : (128 ≤ depth) ⊎ (2048 ≤ n) → term end (128 - depth) n m (lex end text) ≡ refuse PassedLimit (end - length rest)
    first_full full = go (cases_lt depth 128) full
      where
        go : (depth < 128) ⊎ (128 ≤ depth) → (128 ≤ depth) ⊎ (2048 ≤ n) → term end (128 - depth) n m (lex end text) ≡ refuse PassedLimit (end - length rest)
        go (inr h) x = bottom h ∙ o.0 false (λ a b s. refuse WrongSign end) n m
        go (inl h) (inl x) = absurd (omega arith)
        go (inl h) (inr x) = let room = le-ltb n 2048 x in down h ∙ o.0 true (term end (128 - (depth + 1))) n m ∙ rw room refl

    pub first_read : (p : ℕ) → depth < 128 → n < 2048 → p ≡ end - length rest → term end (128 - depth) n m (lex end text) ≡ by_first end (term end (128 - (depth + 1))) p r.0 (suc n) m (lex end r.1.bytes.now)
    first_read p h few at =
        let room = lt-ltb n 2048 few in
        down h ∙ o.0 true (term end (128 - (depth + 1))) n m ∙ rw room (ap (λ (q : ℕ). by_first end (term end (128 - (depth + 1))) q r.0 (suc n) m (lex end r.1.bytes.now)) (sym at))

-- an occurrence leaves the names bound and those in force
occur_by : (P : Names → Type 0) (p : ℕ) (w : Name) (s : Names) → P (note (fault Unbound p) s) → ((i : ℕ) → P (use_at p i s)) → P (occur p w s)
occur_by P p w s none some = elim (found w s.force) as (λ o. P (elim o [ Some i ↦ use_at p i s | None ↦ note (fault Unbound p) s ])) [ Some i ↦ some i | None ↦ none ]

pub occur_bound : (p : ℕ) (w : Name) (s : Names) → (occur p w s).bound ≡ s.bound
occur_bound p w s = occur_by (λ (n : Names). n.bound ≡ s.bound) p w s refl (λ i. at i (get_or s.force i nobody).used refl)
  where
    at : (i : ℕ) (v : Bool) → (get_or s.force i nobody).used ≡ v → (use_at p i s).bound ≡ s.bound
    at i true e = rw e refl
    at i false e = rw e refl

pub occur_kept : (p : ℕ) (w : Name) (s : Names) → binders_of (occur p w s).force ≡ binders_of s.force
occur_kept p w s = occur_by (λ (n : Names). binders_of n.force ≡ binders_of s.force) p w s refl (λ i. at i (get_or s.force i nobody).used refl)
  where
    at : (i : ℕ) (v : Bool) → (get_or s.force i nobody).used ≡ v → binders_of (use_at p i s).force ≡ binders_of s.force
    at i true e = rw e refl
    at i false e = rw e (map-set_same (λ (x : InForce). x.binder) s.force i (record { binder = (get_or s.force i nobody).binder; used = true }) nobody refl)

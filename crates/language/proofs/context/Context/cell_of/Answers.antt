use Rattle.std.proofs.Common.{◌≡◌, eqb, reverse, ◌∙◌, ap, rules, unwrap_or, option_map}
use Rattle.std.specs.List.{find}
use Rattle.std.proofs.lemmas.Iterator.Adapters.{YieldsList-from_rev_slice}
use Rattle.std.proofs.lemmas.Iterator.Search.{find_from_yields_List}
use borrow.Author.Tests.{tests}
use Rattle.language.proofs.Hypotheses.{cell_of_found}
use Rattle.language.proofs.context.Context.cell_of.Goals as goal

pub returns : goal.returns
returns c = λ d.
    let hs = c.args.self.now.hypotheses.items in
    let k : option_map (λ r. r.now) c.find.result ≡ find (λ h. eqb h.binder c.args.binder) (reverse hs) = find_from_yields_List (λ h. eqb h.binder c.args.binder) _ _ _ c.find.ensures.ran (YieldsList-from_rev_slice hs (cc)) (λ x b q k. search (rules, tests)) in
    let m : c.map.result ≡ option_map (λ h. h.cell) (option_map (λ r. r.now) c.find.result) = search rules in
    ap (λ o. unwrap_or o d) (m ∙ ap (option_map (λ h. h.cell)) k) ∙ cell_of_found d hs c.args.binder

use Rattle.std.proofs.Common.{◌++◌, None, length, set, sym, ap, ◌∙◌, append-nil, arith, length-set}
use Rattle.std.specs.Option.{is_some}
use Rattle.std.proofs.lemmas.List.{get_or_read}
use Rattle.calculus.specs.Terms.{free, without}
use Rattle.network.specs.Wiring.{in_force}
use Rattle.network.proofs.Gathered.{used, unused, one, bound, two, split_of, three, restored, listed-both, listed_bound, listed-length}
use Rattle.network.proofs.wire.Wiring.+gather.Goals as goal

pub index-requires : goal.index-requires
index-requires n c = omega (arith, (used c.part_at.ensures c.requires.1 _ c.in-Variable.is).1)

pub push_reserved-requires : goal.push_reserved-requires
push_reserved-requires n c = omega (arith, (used c.part_at.ensures c.requires.1 _ c.in-Variable.is).2)

pub gather-requires : goal.gather-requires
gather-requires n c =
    let o = one c.part_at.ensures c.requires.1 _ c.in-Successor.is in
    (omega (arith, o.less), (o.a, o.part))

pub rebind-outer-requires : goal.rebind-outer-requires
rebind-outer-requires n c = (bound c.part_at.ensures c.requires.1 _ _ _ c.in-Function.is).placed

pub gather-requires-in-Function : goal.gather-requires-in-Function
gather-requires-in-Function n c =
    let o = bound c.part_at.ensures c.requires.1 _ _ _ c.in-Function.is in
    (omega (arith, o.less), (o.a, o.part _ _ (omega arith) (ap length c.rebind-outer.ensures.uses)))

pub rebind-requires : goal.rebind-requires
rebind-requires n c = omega (arith, (bound c.part_at.ensures c.requires.1 _ _ _ c.in-Function.is).placed)

pub gather-requires-in-Let : goal.gather-requires-in-Let
gather-requires-in-Let n c =
    let o = split_of c.part_at.ensures c.requires.1 _ _ _ _ c.in-Let.is in
    (omega (arith, o.less), (o.a, o.left))

pub rebind-outer-requires-in-Let : goal.rebind-outer-requires-in-Let
rebind-outer-requires-in-Let n c = omega (arith, (split_of c.part_at.ensures c.requires.1 _ _ _ _ c.in-Let.is).placed)

pub rebind-other-requires : goal.rebind-other-requires
rebind-other-requires n c = omega (arith, (split_of c.part_at.ensures c.requires.1 _ _ _ _ c.in-Let.is).placed)

pub gather-requires-in-Let-2 : goal.gather-requires-in-Let-2
gather-requires-in-Let-2 n c =
    let o = split_of c.part_at.ensures c.requires.1 _ _ _ _ c.in-Let.is in
    let x = listed-length _ _ _ o.a (c.gather-in-Let.ensures.found o.a o.left) in
    (omega (arith, o.less), (o.b, o.right _ _ (omega arith) (omega (arith, x, ap length c.rebind-other.ensures.uses, ap length c.rebind-outer-in-Let.ensures.uses))))

pub rebind-requires-in-Let : goal.rebind-requires-in-Let
rebind-requires-in-Let n c = omega (arith, (split_of c.part_at.ensures c.requires.1 _ _ _ _ c.in-Let.is).placed)

pub rebind-requires-in-Let-2 : goal.rebind-requires-in-Let-2
rebind-requires-in-Let-2 n c = omega (arith, (split_of c.part_at.ensures c.requires.1 _ _ _ _ c.in-Let.is).placed)

pub gather-requires-in-Iterator : goal.gather-requires-in-Iterator
gather-requires-in-Iterator n c =
    let o = three c.part_at.ensures c.requires.1 _ _ _ c.in-Iterator.is in
    (omega (arith, o.less), (o.a, o.first))

pub gather-requires-in-Iterator-2 : goal.gather-requires-in-Iterator-2
gather-requires-in-Iterator-2 n c =
    let o = three c.part_at.ensures c.requires.1 _ _ _ c.in-Iterator.is in
    let x = listed-length _ _ _ o.a (c.gather-in-Iterator.ensures.found o.a o.first) in
    (omega (arith, o.less), (o.b, o.second _ _ (omega arith) x))

pub gather-requires-in-Iterator-3 : goal.gather-requires-in-Iterator-3
gather-requires-in-Iterator-3 n c =
    let o = three c.part_at.ensures c.requires.1 _ _ _ c.in-Iterator.is in
    let x = listed-length _ _ _ o.a (c.gather-in-Iterator.ensures.found o.a o.first) in
    let y = listed-length _ _ _ o.b (c.gather-in-Iterator-2.ensures.found o.b (o.second _ _ (omega arith) x)) in
    (omega (arith, o.less), (o.c, o.third _ _ (omega arith) (omega (arith, x, y))))

pub gather-requires-in-Application : goal.gather-requires-in-Application
gather-requires-in-Application n c =
    let o = two c.part_at.ensures c.requires.1 _ _ c.in-Application.is in
    (omega (arith, o.less), (o.a, o.left))

pub gather-requires-in-Application-2 : goal.gather-requires-in-Application-2
gather-requires-in-Application-2 n c =
    let o = two c.part_at.ensures c.requires.1 _ _ c.in-Application.is in
    let x = listed-length _ _ _ o.a (c.gather-in-Application.ensures.found o.a o.left) in
    (omega (arith, o.less), (o.b, o.right _ _ (omega arith) x))

pub returns-then-is_some-clause-found : goal.returns-then-is_some-clause-found
returns-then-is_some-clause-found n c t g =
    let u = used c.part_at.ensures g _ c.in-Variable.is in
    let r = get_or_read c.args.self.now.starts.items c.in-Variable.x c.index.result.now u.1 c.index.ensures None in
    rw (u.0, ap is_some (sym r) ∙ (sym c.is_some.ensures ∙ c.if-is_some.true)) c.push_reserved.ensures.items

pub returns-else-is_some-clause-found : goal.returns-else-is_some-clause-found
returns-else-is_some-clause-found n c t g =
    let u = used c.part_at.ensures g _ c.in-Variable.is in
    let r = get_or_read c.args.self.now.starts.items c.in-Variable.x c.index.result.now u.1 c.index.ensures None in
    rw (u.0, ap is_some (sym r) ∙ (sym c.is_some.ensures ∙ c.if-is_some.false)) (sym (append-nil _))

pub returns-in-Number-clause-found : goal.returns-in-Number-clause-found
returns-in-Number-clause-found n c t g = rw (unused c.part_at.ensures g _ c.in-Number.is) (sym (append-nil _))

pub returns-in-Successor-clause-found : goal.returns-in-Successor-clause-found
returns-in-Successor-clause-found n c t g =
    let o = one c.part_at.ensures g _ c.in-Successor.is in
    rw o.free_is (c.gather.ensures.found o.a o.part)

pub returns-in-Function : goal.returns-in-Function
returns-in-Function n c =
    let s = c.args.self.now.starts.items in
    let e = c.rebind-outer.ensures in
    let f = c.gather-in-Function.ensures in
    record {
      found = (λ t g.
          (let o = bound c.part_at.ensures g _ _ _ c.in-Function.is in
          let r = f.found o.a (o.part _ _ (omega arith) (ap length e.uses)) ∙ (ap (λ q. q ++ in_force c.rebind-outer.new.self.starts.items (free o.a)) e.uses ∙ ap (λ q. c.args.self.now.uses.items ++ in_force q (free o.a)) e.after) in
          c.rebind.ensures.uses ∙ rw o.free_is (listed_bound s _ _ _ (free o.a) o.placed r)));
      kept = restored s c.gather-in-Function.new.self.starts.items _ _ None _ (f.kept ∙ e.after) e.before c.rebind.ensures.after;
    }

pub returns-in-Let : goal.returns-in-Let
returns-in-Let n c =
    let s = c.args.self.now.starts.items in
    let x = c.in-Let.first in
    let y = c.in-Let.second in
    let us = c.gather-in-Let.new.self.uses.items in
    let f = c.gather-in-Let.ensures in
    let e = c.rebind-outer-in-Let.ensures in
    let e' = c.rebind-other.ensures in
    let f' = c.gather-in-Let-2.ensures in
    let inner = restored c.rebind-outer-in-Let.new.self.starts.items c.gather-in-Let-2.new.self.starts.items c.rebind-in-Let.new.self.starts.items y None _ (f'.kept ∙ e'.after) e'.before c.rebind-in-Let.ensures.after in
    record {
      found = (λ t g.
          (let o = split_of c.part_at.ensures g _ _ _ _ c.in-Let.is in
          let l = f.found o.a o.left in
          let n = listed-length _ _ _ o.a l in
          let z = e'.after ∙ (ap (λ q. set q y None) e.after ∙ ap (λ q. set (set q x None) y None) f.kept) in
          let v = e'.uses ∙ e.uses in
          let r = f'.found o.b (o.right _ _ (omega arith) (omega (arith, n, ap length v))) ∙ (ap (λ q. q ++ in_force c.rebind-other.new.self.starts.items (free o.b)) v ∙ ap (λ q. us ++ in_force q (free o.b)) z) in
          let i = listed_bound (set s x None) us _ y (free o.b) (omega (arith, o.placed, length-set s x None)) r in
          let k = listed_bound s us _ x (without y (free o.b)) o.placed.0 i in
          c.rebind-in-Let-2.ensures.uses ∙ (c.rebind-in-Let.ensures.uses ∙ rw o.free_is (listed-both s _ us _ (free o.a) (without x (without y (free o.b))) l k))));
      kept = restored c.gather-in-Let.new.self.starts.items c.rebind-in-Let.new.self.starts.items _ x None _ (inner ∙ e.after) e.before c.rebind-in-Let-2.ensures.after ∙ f.kept;
    }

pub returns-in-Iterator-clause-found : goal.returns-in-Iterator-clause-found
returns-in-Iterator-clause-found n c t g =
    let s = c.args.self.now.starts.items in
    let us = c.gather-in-Iterator.new.self.uses.items in
    let us' = c.gather-in-Iterator-2.new.self.uses.items in
    let f = c.gather-in-Iterator.ensures in
    let f' = c.gather-in-Iterator-2.ensures in
    let o = three c.part_at.ensures g _ _ _ c.in-Iterator.is in
    let l = f.found o.a o.first in
    let x = listed-length _ _ _ o.a l in
    let l' = f'.found o.b (o.second _ _ (omega arith) x) in
    let y = listed-length _ _ _ o.b l' in
    let l'' = c.gather-in-Iterator-3.ensures.found o.c (o.third _ _ (omega arith) (omega (arith, x, y))) in
    let r = listed-both s us us' _ (free o.b) (free o.c) (l' ∙ ap (λ q. us ++ in_force q (free o.b)) f.kept) (l'' ∙ ap (λ q. us' ++ in_force q (free o.c)) (f'.kept ∙ f.kept)) in
    rw o.free_is (listed-both s _ us _ (free o.a) (free o.b ++ free o.c) l r)

pub returns-in-Application-clause-found : goal.returns-in-Application-clause-found
returns-in-Application-clause-found n c t g =
    let us = c.gather-in-Application.new.self.uses.items in
    let f = c.gather-in-Application.ensures in
    let o = two c.part_at.ensures g _ _ c.in-Application.is in
    let l = f.found o.a o.left in
    let r = c.gather-in-Application-2.ensures.found o.b (o.right _ _ (omega arith) (listed-length _ _ _ o.a l)) in
    rw o.free_is (listed-both c.args.self.now.starts.items _ us _ (free o.a) (free o.b) l (r ∙ ap (λ s. us ++ in_force s (free o.b)) f.kept))

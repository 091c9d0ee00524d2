use Rattle.std.proofs.Common.{arith, rules}
use Rattle.language.proofs.Cells.{inside, reads, same_numbers, same_arrows, same_products, other_arrows, other_products, apart_number, apart_arrow, apart_product}
use Rattle.language.proofs.types.+same.Goals as goal

pub offset_bounds-cells-i : goal.offset_bounds-cells-i
offset_bounds-cells-i t c = let h = inside c.requires.left.0 _ _ c.requires.left.1 in search rules

pub bounds-cells-i : goal.bounds-cells-i
bounds-cells-i t c = inside _ _ _ c.requires.left.1

pub offset_bounds-cells-j : goal.offset_bounds-cells-j
offset_bounds-cells-j t c = let h = inside c.requires.right.0 _ _ c.requires.right.1 in search rules

pub bounds-cells-j : goal.bounds-cells-j
bounds-cells-j t c = inside _ _ _ c.requires.right.1

pub same-requires : goal.same-requires
same-requires t c =
    let m = reads _ _ _ _ c.in-Arrow-Arrow.is-0 c.requires.left.1 in
    let n = reads _ _ _ _ c.in-Arrow-Arrow.is-1 c.requires.right.1 in
    (omega (arith, m.less), ((_, m.first), (_, n.first)))

pub same-requires-then-same : goal.same-requires-then-same
same-requires-then-same t c =
    let m = reads _ _ _ _ c.in-Arrow-Arrow.is-0 c.requires.left.1 in
    let n = reads _ _ _ _ c.in-Arrow-Arrow.is-1 c.requires.right.1 in
    (omega (arith, m.less'), ((_, m.second), (_, n.second)))

pub same-requires-in-Product-Product : goal.same-requires-in-Product-Product
same-requires-in-Product-Product t c =
    let m = reads _ _ _ _ c.in-Product-Product.is-0 c.requires.left.1 in
    let n = reads _ _ _ _ c.in-Product-Product.is-1 c.requires.right.1 in
    (omega (arith, m.less), ((_, m.first), (_, n.first)))

pub same-requires-then-same-2 : goal.same-requires-then-same-2
same-requires-then-same-2 t c =
    let m = reads _ _ _ _ c.in-Product-Product.is-0 c.requires.left.1 in
    let n = reads _ _ _ _ c.in-Product-Product.is-1 c.requires.right.1 in
    (omega (arith, m.less'), ((_, m.second), (_, n.second)))

pub returns-in-N-N : goal.returns-in-N-N
returns-in-N-N t c = same_numbers _ _ _ c.in-N-N.is-0 c.in-N-N.is-1

pub returns-then-same : goal.returns-then-same
returns-then-same t c = same_arrows _ _ _ _ _ _ _ _ _ c.in-Arrow-Arrow.is-0 c.in-Arrow-Arrow.is-1 c.same.ensures c.if-same.true c.same-then-same.ensures

pub returns-else-same : goal.returns-else-same
returns-else-same t c = other_arrows _ _ _ _ _ _ _ _ c.in-Arrow-Arrow.is-0 c.in-Arrow-Arrow.is-1 c.same.ensures c.if-same.false

pub returns-then-same-2 : goal.returns-then-same-2
returns-then-same-2 t c = same_products _ _ _ _ _ _ _ _ _ c.in-Product-Product.is-0 c.in-Product-Product.is-1 c.same-in-Product-Product.ensures c.if-same-2.true c.same-then-same-2.ensures

pub returns-else-same-2 : goal.returns-else-same-2
returns-else-same-2 t c = other_products _ _ _ _ _ _ _ _ c.in-Product-Product.is-0 c.in-Product-Product.is-1 c.same-in-Product-Product.ensures c.if-same-2.false

pub returns-in_default : goal.returns-in_default
returns-in_default t c = apart_number _ _ _ c.in_default.is-0 c.in_default.not-N-1

pub returns-in_default-2 : goal.returns-in_default-2
returns-in_default-2 t c = apart_arrow _ _ _ _ _ c.in_default.is-0 c.in_default.not-Arrow-1

pub returns-in_default-3 : goal.returns-in_default-3
returns-in_default-3 t c = apart_product _ _ _ _ _ c.in_default.is-0 c.in_default.not-Product-1

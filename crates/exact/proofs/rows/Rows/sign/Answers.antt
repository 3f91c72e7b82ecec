-- `exact::rows::Rows::sign` meets its contract. Assumes nothing.
use mathlib.Core.Path.{◌≡◌}
use Prim.Native.Nat.{ℕ, ◌<◌}
use native.Mathlib.Omega.{arith}
use lib.ListN.{length, get_or}
use Rattle.std.proofs.lemmas.Slice.Zip.{zip_turn, zip_end}
use Rattle.std.proofs.lemmas.List.{length_push}
use Rattle.exact.proofs.Cells.{get_le}
use Rattle.exact.proofs.Carries.{start, turn, at_end, row_more, row_less}
use Rattle.exact.proofs.Terms.{net_sign}
use Rattle.exact.proofs.rows.Rows.sign.Goals as goal
use Rattle.exact.proofs.rows.Rows.sign.Goals.{In-Some}

pub loop-p-init : goal.loop-p-init
loop-p-init c = start _ _

-- the turn's cells are the next ones of the rows
cells : (c : In-Some) → let i : ℕ = length c.loop-p.yielded in
    (i < length c.args.self.now.more) × (i < length c.args.self.now.less)
    × ((d : ℕ) → c.in-Some.p.now ≡ get_or c.args.self.now.more i d) × ((d : ℕ) → c.in-Some.n.now ≡ get_or c.args.self.now.less i d)
cells c = zip_turn c.args.self.now.more c.args.self.now.less _ _ _ c.next.new.self _ (cc) (cc) c.loop-p.yielded_by _ c.in-Some.is c.next.ensures.steps

pub overflow_add-a : goal.overflow_add-a
overflow_add-a c =
    let t = cells (goal.at.overflow_add-a c).In-Some in
    omega (arith, t.2 0, get_le c.args.self.now.more (length c.loop-p.yielded), c.loop-p.invariant.small)

pub overflow_add-b : goal.overflow_add-b
overflow_add-b c =
    let t = cells (goal.at.overflow_add-b c).In-Some in
    omega (arith, t.3 0, get_le c.args.self.now.less (length c.loop-p.yielded), c.loop-p.invariant.small')

pub loop-p-preserved : goal.loop-p-preserved
loop-p-preserved c =
    let t = cells (goal.at.loop-p-preserved c).In-Some in
    turn c.loop-p.invariant (row_more c.args.self.now c.requires) (row_less c.args.self.now c.requires) (omega (arith, t.0, c.args.self.now.more_long)) (t.2 0) (t.3 0)
    (cc) (length_push c.loop-p.yielded (c.in-Some.p, c.in-Some.n))

pub returns : goal.returns
returns c =
    let rows = c.args.self.now in
    let t = zip_end rows.more rows.less _ _ _ c.next.new.self _ (cc) (cc) c.loop-p.yielded_by c.in-None.is c.next.ensures.steps in
    let e = at_end c.loop-p.invariant (row_more rows c.requires) (row_less rows c.requires) (omega (arith, t, rows.more_long, rows.less_long)) in
    let s = net_sign rows in
    cc

-- `run_piece::take_part` meets its contract: the bytes that are missing, or all that there are, are gathered, and what they make of the record is one of three.
-- A file that was read never has a whole record's bytes or more, so there is room for one byte at least.
use native.Mathlib.Omega.{arith}
use mathlib.Core.Path.{◌≡◌, ap}
use mathlib.Core.List.{List, ◌++◌}
use Prim.Native.Nat.{ℕ, ◌+◌, ◌-◌, ◌<◌, min}
use lib.ListN.{length, take, length-take}
use Rattle.run_piece.specs.Inner.{Missing}
use Rattle.run_piece.proofs.Feeding.{Gathered, put_all, uses, uses_all, has_room, judges, overfull, grows, heads, ends}
use Rattle.run_piece.proofs.take_part.Goals as goal

-- what is put behind the bytes that are there: as many bytes as are missing, or all
gathered : (have want least used : ℕ) (carry rest new x : List ℕ) → have < 1026 → Missing have carry want → least ≡ min want (1026 - have)
    → used ≡ min least (length rest) → x ≡ take used rest → take (have + length x) new ≡ take have carry ++ x → Gathered have carry rest new want used
gathered have want least used carry rest new x room m l u e put =
    record {
      within = omega (arith, u);
      some = λ h. omega (arith, u, l, m.some);
      most = omega (arith, u, l);
      missing = m;
      put = put_all have used carry rest new (omega (arith, u)) e put;
    }

pub returns-then-have-ge-CARRY : goal.returns-then-have-ge-CARRY
returns-then-have-ge-CARRY c = record { used = uses_all c.quiet.ensures; reads = λ a L. absurd (overfull L c.if-have-ge-CARRY.true) }

pub gather-requires : goal.gather-requires
gather-requires c =
    omega (
      arith,
      simp length-take at (ap length c.front.ensures),
      c.least-used.ensures,
      c.least.ensures,
    )

pub returns-then-used-want : goal.returns-then-used-want
returns-then-used-want c =
    let Q = c.quiet-then-used-want.ensures in
    let G = gathered c.args.p.have _ _ _ c.args.carry.now c.args.rest.now c.gather.new.carry _ c.if-have-ge-CARRY.false c.missing-want.ensures c.least.ensures c.least-used.ensures c.front.ensures c.gather.ensures in
    record {
      used = uses G Q.used (omega (arith, Q.none));
      reads = λ a L. grows L G c.requires c.if-used-want.true c.holding.ensures Q;
    }

pub returns-then-have-lt4 : goal.returns-then-have-lt4
returns-then-have-lt4 c =
    let Q = c.quiet-then-have-lt4.ensures in
    let G = gathered c.args.p.have _ _ _ c.args.carry.now c.args.rest.now c.gather.new.carry _ c.if-have-ge-CARRY.false c.missing-want.ensures c.least.ensures c.least-used.ensures c.front.ensures c.gather.ensures in
    record {
      used = uses G Q.used (omega (arith, Q.none));
      reads = λ a L. heads L G c.requires c.if-have-lt4.true c.if-used-want.false c.headed.ensures Q;
    }

pub returns : goal.returns
returns c =
    let t = c.take_record-t.ensures in
    let T = c.taken.ensures in
    let G = gathered c.args.p.have _ _ _ c.args.carry.now c.args.rest.now c.gather.new.carry _ c.if-have-ge-CARRY.false c.missing-want.ensures c.least.ensures c.least-used.ensures c.front.ensures c.gather.ensures in
    record {
      used = uses G T.used (has_room T t.len_bound);
      reads = λ a L. ends L G c.requires c.if-have-lt4.false c.if-used-want.false c.front-whole.ensures T (judges _ t.by_index);
    }

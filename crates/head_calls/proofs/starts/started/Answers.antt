-- A member that was checked has numbers of one byte.
use native.Mathlib.Omega.{arith}
use Rattle.convergence.proofs.Demand3.{size_large}
use Rattle.head_calls.proofs.Answers.{member_sized, member_small}
use Rattle.head_calls.proofs.starts.started.Goals as goal

pub overflow_cast-n : goal.overflow_cast-n
overflow_cast-n c =
    let a = c.args in
    omega (arith, (member_sized a.family a.listens _ _ _ _ c.requires).most)

pub overflow_cast-f : goal.overflow_cast-f
overflow_cast-f c =
    let a = c.args in
    let size = member_sized a.family a.listens _ _ _ _ c.requires in
    omega (arith, size.most, size_large a.family _ _ size.limit)

pub overflow_cast-number : goal.overflow_cast-number
overflow_cast-number c =
    let a = c.args in
    omega (arith, member_small a.family a.listens _ _ _ _ c.requires)

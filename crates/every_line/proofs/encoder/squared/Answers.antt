-- Levels differ by 15 at most.
use Rattle.std.proofs.Common.{◌≤◌, mul-le-mul, arith}
use Rattle.every_line.proofs.encoder.squared.Goals as goal

pub returns : goal.returns
returns c =
    let d : c.abs_diff-difference.result ≤ 15 = omega arith in
    mul-le-mul d d

use Rattle.std.proofs.Common.{eqb, arith, w8}
use lib.Lanes.{chunk}
use Rattle.std.proofs.lemmas.Simd.{length-chunk, bitmask_splat}
use Rattle.mkt_io.proofs.MaskLemmas.{mask-or}
use Rattle.mkt_io.proofs.lanes.blanks_of_eight.Goals as goal

pub returns : goal.returns
returns c =
    let v = chunk c.args.at 8 c.args.line.now in
    let long = length-chunk c.args.at 8 c.args.line.now c.requires in
    let spaces = bitmask_splat w8 eqb v 8 32 long (omega arith) in
    let tabs = bitmask_splat w8 eqb v 8 9 long (omega arith) in
    rw (spaces, tabs) (mask-or (λ b. eqb b 32) (λ b. eqb b 9) v)

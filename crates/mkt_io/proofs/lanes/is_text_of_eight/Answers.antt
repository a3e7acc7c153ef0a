use Rattle.std.proofs.Common.{◌%◌, ◌^◌, not, ◌&&◌, ◌||◌, eqb, ltb, map, replicate, ap, ◌∙◌, arith, w8}
use lib.Lanes.{chunk, mask_l}
use Rattle.std.specs.List.{list_all}
use Rattle.std.proofs.lemmas.List.{length-map}
use Rattle.std.proofs.lemmas.Simd.{length-chunk, bitmask_splat, mask_l-mod, tops_compared, zip2_splat_left}
use Rattle.mkt_io.proofs.MaskLemmas.{mask-and, mask-none, mask-or}
use Rattle.mkt_io.proofs.TextLemmas.{text-byte}
use Rattle.mkt_io.proofs.lanes.is_text_of_eight.Goals as goal

pub returns : goal.returns
returns c =
    let v = chunk c.args.at 8 c.args.line.now in
    let long = length-chunk c.args.at 8 c.args.line.now c.requires in
    let low = bitmask_splat w8 ltb v 8 32 long (omega arith) in
    let no_tab = bitmask_splat w8 (λ a b. not (eqb a b)) v 8 9 long (omega arith) in
    let high =
    ap (λ ms. mask_l ms % 2 ^ 64) (tops_compared w8 ltb (replicate 8 126) v ∙ zip2_splat_left ltb 126 8 v long) ∙ mask_l-mod (map (λ b. ltb 126 b) v) 64 (omega (arith, length-map v (λ b. ltb 126 b), long)) in
    rw (low, no_tab, high, mask-and (λ b. ltb b 32) (λ b. not (eqb b 9)) v, mask-or (λ b. ltb b 32 && not (eqb b 9)) (λ b. ltb 126 b) v)
    (mask-none (λ b. (ltb b 32 && not (eqb b 9)) || ltb 126 b) v ∙ (λ i. list_all (λ b. text-byte b i) v))

use Rattle.std.proofs.Common.{◌≡◌, ◌-◌, ◌*◌, ◌/◌, ◌^◌, ◌<◌, arith, ap, sym, ◌∙◌}
use Rattle.std.proofs.Math.Nat.{mul-le-mul_right}
use Rattle.auction_file.specs.EvenGrid.{EvenGrid, scale_of}
use Rattle.auction_file.proofs.EvenGridLemmas.{position_of_product, position_on-at, position_on-none}
use Rattle.auction_file.proofs.grid.EvenGrid.position.Goals as goal
use Rattle.auction_file.proofs.grid.EvenGrid.position.Goals.{else-position-self-via-then-position-self+else-position-self-2, else-position-self-via-else-position-self}

pub returns-then-price-self-clause-exact : goal.returns-then-price-self-clause-exact
returns-then-price-self-clause-exact c =
    let low : c.self.inside.low ≡ c.args.self.low = ap (λ (g : EvenGrid). g.low) c.self.view_is in
    sym (position_on-none c.args.self c.args.price (λ k _ same. absurd (omega (arith, low))))

pub returns-then-position-self-2-clause-exact : goal.returns-then-position-self-2-clause-exact
returns-then-position-self-2-clause-exact c =
    let low : c.self.inside.low ≡ c.args.self.low = ap (λ (g : EvenGrid). g.low) c.self.view_is in
    let tick : c.self.inside.tick ≡ c.args.self.tick = ap (λ (g : EvenGrid). g.tick) c.self.view_is in
    let count : c.self.inside.count ≡ c.args.self.count = ap (λ (g : EvenGrid). g.count) c.self.view_is in
    let position = c.from.result * c.self.inside.scale / 4294967296 in
    let product : position * c.self.inside.tick ≡ position * c.args.self.tick = ap (λ t. position * t) tick in
    sym (position_on-at c.args.self c.args.price position c.requires.tick (omega (arith, count)) (omega (arith, low, product)))

pub returns-else-position-self-clause-exact : goal.returns-else-position-self-clause-exact
returns-else-position-self-clause-exact c =
    let grid = c.args.self in
    let low : c.self.inside.low ≡ c.args.self.low = ap (λ (g : EvenGrid). g.low) c.self.view_is in
    let tick : c.self.inside.tick ≡ c.args.self.tick = ap (λ (g : EvenGrid). g.tick) c.self.view_is in
    let count : c.self.inside.count ≡ c.args.self.count = ap (λ (g : EvenGrid). g.count) c.self.view_is in
    let scale : c.self.inside.scale ≡ scale_of c.args.self.tick = c.self.invariant ∙ ap scale_of tick in
    sym (position_on-none grid c.args.price (λ k within same.
    let above : c.from.result ≡ k * grid.tick = omega (arith, low, same, c.from.ensures) in
    let last = mul-le-mul_right {m = k} {n = grid.count - 1} grid.tick (omega arith) in
    let small : k * grid.tick < 2 ^ 32 = omega (arith, last, c.requires.last) in
    let position : c.from.result * c.self.inside.scale / 4294967296 ≡ k =
    ap (λ a. a * c.self.inside.scale / 4294967296) above ∙ ap (λ s. k * grid.tick * s / 4294967296) scale ∙ position_of_product grid.tick k c.requires.tick small in
    let product : c.from.result * c.self.inside.scale / 4294967296 * c.self.inside.tick ≡ k * grid.tick = ap (λ n. n * c.self.inside.tick) position ∙ ap (λ t. k * t) tick in
    elim c.else-position-self.branch [
      | else-position-self-via-then-position-self+else-position-self-2 w ↦ absurd (omega (arith, product, above))
      | else-position-self-via-else-position-self w ↦ absurd (omega (arith, position, count))
    ]))

-- Both arrays in turn; later numbers are those past the second.
use Rattle.std.proofs.Common.{◌≡◌, ap, ◌∙◌, List, ◌++◌, ℕ, drop, drop-drop}
use Rattle.search.specs.Trail.{array_of}
use Rattle.state.specs.Inner.Views.{trail_of}
use Rattle.assembly.proofs.trail.write.Goals as goal

parts : {a x b y c z : List ℕ} → a ≡ x → b ≡ y → c ≡ z → a ++ (b ++ c) ≡ x ++ (y ++ z)
parts p q s = rw (p, q, s)

pub returns : goal.returns
returns c =
    let t = trail_of c.args.t.now in
    let first : c.put.new.array ≡ array_of t.numbers = c.put.ensures ∙ ap array_of c.numbers.ensures in
    let sizes : c.put_sizes.new.numbers ≡ t.sizes = c.put_sizes.ensures ∙ c.sizes-sizes.ensures in
    let second : c.put-2.new.array ≡ array_of t.sizes = c.put-2.ensures ∙ ap array_of sizes in
    let later : c.split_at_mut-second.result.1.now ≡ drop 64 c.args.trail.now =
    c.split_at_mut-second.ensures.back ∙ ap (drop 32) c.split_at_mut-first.ensures.back ∙ drop-drop 32 32 c.args.trail.now in
    parts first second later

use Rattle.std.proofs.lemmas.Grind.{common_steps}
use Rattle.std.proofs.Common.{ℕ, ◌*◌, ◌%◌, ◌++◌, length-take, take, arith}
use Rattle.std.proofs.lemmas.List.{length-map, take_all}
use Rattle.tv_core.specs.declared.field.TheConstants.{P}
use Rattle.tv_core.specs.Combinations.{scaled}
use Rattle.tv_core.proofs.Addition.{added_none, added_multiple, normal_of, length_of, top_of, short_of}
use Rattle.tv_core.proofs.CombinationLaws.{top-scaled}
use Rattle.tv_core.proofs.combination.Lc.add_scaled.Goals as goal

pub loop-coefficient-init : goal.loop-coefficient-init
loop-coefficient-init c = added_none c.args.self.now c.requires.normal

pub add-requires : goal.add-requires
add-requires c =
    let i = c.loop-coefficient.coefficient-index in
    let terms = c.args.terms.now in
    record {
      normal = normal_of (c.args.self.now ++ (scaled c.args.factor
          (take c.loop-coefficient.coefficient-index c.args.terms.now))) c.loop-coefficient.self c.loop-coefficient.invariant;
      room = short_of c.args.self.now (scaled c.args.factor
          (take c.loop-coefficient.coefficient-index c.args.terms.now)) c.loop-coefficient.self i 128 c.loop-coefficient.invariant
          (omega (arith, length-map {B = ℕ × ℕ} (take i terms) (λ (u : ℕ × ℕ). (c.args.factor * u.0 % P, u.1)), length-take i terms)) (omega arith);
    }

pub loop-coefficient-preserved : goal.loop-coefficient-preserved
loop-coefficient-preserved c =
    let i = c.loop-coefficient.coefficient-index in
    added_multiple c.args.self.now c.args.terms.now i c.loop-coefficient-item.result c.loop-coefficient-test.true c.loop-coefficient-item.is
    c.loop-coefficient.self c.add.new.self c.args.factor c.times.result c.times.ensures c.loop-coefficient.invariant c.add.ensures.terms

pub returns : goal.returns
returns c = grind (arith, common_steps, take_all, normal_of, length_of, length-map, ℕ, top_of, top-scaled)

use Rattle.std.proofs.Common.{◌+◌, ◌<◌, List, drop, ap, arith, w32, SFits, rules}
use Rattle.std.proofs.lemmas.Int.{ints}
use Rattle.std.proofs.lemmas.List.{at_drop_more}
use Rattle.book.specs.Limits.{most_terms}
use Rattle.book.specs.Rules.{no_term}
use Rattle.book.specs.declared.parts.Term.{Term}
use Rattle.world.specs.Worlds.{world_of}
use Rattle.world.specs.Truth.{sum, worth}
use Rattle.world.specs.Inner.{env_of}
use Rattle.world.proofs.elements.Trial.worth.Goals as goal

pub loop-t-init : goal.loop-t-init
unfolding worth
loop-t-init c =
    let f : SFits w32 c.args.a.now.constant = search rules in
    record { so_far = omega (arith, ints); size = omega (arith, ints) }

pub loop-t-preserved : goal.loop-t-preserved
loop-t-preserved c =
    let few : c.loop-t.t-index < most_terms = search rules in
    let ts = c.terms-t-items.result.now in
    let i = c.loop-t.t-index in
    let env = env_of (world_of c.args.self.now.log.now) c.args.slots.now in
    let same = c.terms-t-items.ensures.value in
    let here = ap (λ (xs : List Term). sum env (drop i xs)) same in
    let rest = ap (λ (xs : List Term). sum env (drop (i + 1) xs)) same in
    let next = at_drop_more (sum env) ts i no_term c.loop-t-test.true in
    record { so_far = omega (arith, ints); size = omega (arith, ints) }

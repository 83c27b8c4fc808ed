use Rattle.std.proofs.Common.{refl, ap, ◌∙◌, rules}
use Rattle.calls.specs.Fair.{remaining}
use Rattle.calls.specs.declared.call.Call.TheVariants.{Hide, Show, Order, Climb, Try}
use Rattle.running.proofs.Matches.{served}
use Rattle.running.proofs.strings.answer.Goals as goal

pub returns-in-Hide : goal.returns-in-Hide
returns-in-Hide g c =
    let s = served g.S.Source.graph c.args.planner.now c.hide.new.self c.args.spare.now c.args.call (Hide c.in-Hide.c) c.into.result _ c.in-Hide.is c.into.ensures refl c.requires c.hide.ensures in
    record { serves = s.0; matched = s.1 }

pub returns-in-Show : goal.returns-in-Show
returns-in-Show g c =
    let s = served g.S.Source.graph c.args.planner.now c.show.new.self c.args.spare.now c.args.call (Show c.in-Show.c) c.into-in-Show.result _ c.in-Show.is c.into-in-Show.ensures refl c.requires c.show.ensures in
    record { serves = s.0; matched = s.1 }

pub returns-in-Order : goal.returns-in-Order
returns-in-Order g c =
    let s = served g.S.Source.graph c.args.planner.now c.order.new.self c.args.spare.now c.args.call (Order) c.into-in-Order.result _ c.in-Order.is c.into-in-Order.ensures refl c.requires c.order.ensures in
    record { serves = s.0; matched = s.1 }

pub returns-in-Try : goal.returns-in-Try
returns-in-Try g c =
    let s = served g.S.Source.graph c.args.planner.now c.try_floor.new.self c.args.spare.now c.args.call (Try) c.into-in-Try.result _ c.in-Try.is c.into-in-Try.ensures refl c.requires c.try_floor.ensures in
    record { serves = s.0; matched = s.1 }

pub returns-in-Climb : goal.returns-in-Climb
returns-in-Climb g c =
    let s = served g.S.Source.graph c.args.planner.now c.climb.new.self c.args.spare.now c.args.call Climb c.into-in-Climb.result _ c.in-Climb.is (c.into-in-Climb.ensures ∙ ap remaining (search rules)) refl c.requires c.climb.ensures in
    record { serves = s.0; matched = s.1 }

-- `whole_mosaic::check_rows` meets its contract: four comparisons in the definition's order, and a law for each of the five ways out.
use Rattle.whole_mosaic.specs.Rooms.{short_counts, short_times, short_decisions, short_nodes, enough}
use Rattle.whole_mosaic.proofs.check_rows.Goals as goal

pub returns-then-counts-legs : goal.returns-then-counts-legs
returns-then-counts-legs c = short_counts _ _ _ _ _ c.if-counts-legs.true

pub returns-then-times-legs : goal.returns-then-times-legs
returns-then-times-legs c = short_times _ _ _ _ _ c.if-counts-legs.false c.if-times-legs.true

pub returns-then-decisions-legs : goal.returns-then-decisions-legs
returns-then-decisions-legs c = short_decisions _ _ _ _ _ c.if-counts-legs.false c.if-times-legs.false c.if-decisions-legs.true

pub returns-then-nodes-legs : goal.returns-then-nodes-legs
returns-then-nodes-legs c = short_nodes _ _ _ _ _ c.if-counts-legs.false c.if-times-legs.false c.if-decisions-legs.false c.if-nodes-legs.true

pub returns : goal.returns
returns c = enough _ _ _ _ _ c.if-counts-legs.false c.if-times-legs.false c.if-decisions-legs.false c.if-nodes-legs.false

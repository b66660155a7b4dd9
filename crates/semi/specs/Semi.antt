-- What a semi-ordered counter means. Assumes nothing.
--   SemiModel      places, step, packets, volume, and the line
--   SemiSound      what every such counter keeps
--   semi_opened    a counter just opened with places and step
--   semi_more      the model after an add that is not refused
--   semi_meaning   the kind as a frame counter
use Rattle.std.specs.Prelude.{ℕ, ◌+◌, ◌≤◌, List, []}
use Rattle.flow.specs.Limits.{most_packets, most_step}
use Rattle.flow.specs.Meanings.{Meaning}
use Rattle.flow.specs.declared.code.Code.{Code}
use Rattle.semi.specs.declared.entry.Entry.{Entry}
use Rattle.semi.specs.declared.counter.SemiOrdered.{SemiOrdered}
use Rattle.semi.specs.Line.{Lawful, added, estimate, passes}

pub record SemiModel : Type 0 where
  pub places : ℕ
  pub step : ℕ
  pub packets : ℕ
  pub volume : ℕ
  pub line : List Entry

pub record SemiSound (x : SemiModel) : Type 0 where
  pub some : 1 ≤ x.places
  pub stepping : 1 ≤ x.step
  pub few : x.packets ≤ most_packets
  pub lawful : Lawful x.places x.step x.packets x.volume x.line

abbrev pub semi_opened : ℕ → ℕ → SemiModel
semi_opened n s = record { places = n; step = s; packets = 0; volume = 0; line = [] }

abbrev pub semi_more : SemiModel → Code → ℕ → SemiModel
semi_more x k w = record {
  places = x.places;
  step = x.step;
  packets = x.packets + 1;
  volume = x.volume + w;
  line = added x.places x.step x.line k w;
}

abbrev pub semi_meaning : Meaning SemiOrdered
semi_meaning = record {
  Model = SemiModel;
  model = λ c. record { places = c.line.sizes.places; step = c.line.sizes.step; packets = c.tally.packets; volume = c.tally.volume; line = c.line.entries.items };
  sound = SemiSound;
  places = λ x. x.places;
  step = λ x. x.step;
  greatest = λ _. most_step;
  packets = λ x. x.packets;
  volume = λ x. x.volume;
  estimate = λ x k. estimate x.places x.step x.line k;
  opened = λ _ n s. semi_opened n s;
  flushed = λ x. semi_opened x.places x.step;
  added = semi_more;
  passes = λ x k w. passes x.places x.step x.line k w;
}

-- What a Space-Saving counter means. Assumes nothing.
--   SpaceModel      the packets, and the entries, as many as there are places
--   SpaceSound      what every such counter keeps
--   space_opened    a counter just opened with so many places
--   space_more      the model after an add that is not refused
--   space_meaning   the kind as a frame counter
use Rattle.std.specs.Prelude.{◌≡◌, ℕ, ◌+◌, ◌≤◌, ◌<◌, true, List, length, replicate}
use Rattle.flow.specs.Limits.{most_packets}
use Rattle.flow.specs.Meanings.{Meaning}
use Rattle.flow.specs.declared.code.Code.{Code}
use Rattle.fitting.specs.declared.entry.Entry.{Entry}
use Rattle.fitting.specs.declared.space_saving.SpaceSaving.{SpaceSaving}
use Rattle.fitting.specs.Entries.{vacant, total, estimate, taker, added, apart}

pub record SpaceModel : Type 0 where
  pub packets : ℕ
  pub entries : List Entry

pub record SpaceSound (x : SpaceModel) : Type 0 where
  pub some : 0 < length x.entries
  pub few : x.packets ≤ most_packets
  pub distinct : apart x.entries ≡ true

abbrev pub space_opened : ℕ → SpaceModel
space_opened n = record { packets = 0; entries = replicate n vacant }

abbrev pub space_more : SpaceModel → Code → ℕ → SpaceModel
space_more x k w = record { packets = x.packets + 1; entries = added x.entries k w }

-- the passes are the place of the entry that takes the packet, counted from 1
abbrev pub space_meaning : Meaning SpaceSaving
space_meaning = record {
  Model = SpaceModel;
  model = λ c. record { packets = c.tally.packets; entries = c.entries.items };
  sound = SpaceSound;
  places = λ x. length x.entries;
  step = λ _. 1;
  greatest = λ _. 1;
  packets = λ x. x.packets;
  volume = λ x. total x.entries;
  estimate = λ x k. estimate k x.entries;
  opened = λ _ n _. space_opened n;
  flushed = λ x. space_opened (length x.entries);
  added = space_more;
  passes = λ x k _. taker k x.entries + 1;
}

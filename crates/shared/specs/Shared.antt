-- What a shared-deduction counter means. Assumes nothing.
--   SharedModel      places, packets, volume, deduction, and the list of places
--   SharedSound      what every such counter keeps
--   shared_opened    a counter just opened with so many places
--   shared_more      the model after an add that is not refused
--   shared_meaning   the kind as a frame counter
use Rattle.std.specs.Prelude.{◌≡◌, ℕ, ◌+◌, ◌*◌, ◌≤◌, true, cond, ◌||◌, List, length, replicate, None}
use Rattle.arrayvec.specs.ArrayVec.{array_vec_len}
use Rattle.flow.specs.Limits.{most_packets}
use Rattle.flow.specs.Meanings.{Meaning}
use Rattle.flow.specs.declared.code.Code.{Code}
use Rattle.shared.specs.declared.counter.SharedDeduction.{SharedDeduction}
use Rattle.shared.specs.Places.{Place, holds, count_of, any_empty, deducted, added, counted, tidy}

pub record SharedModel : Type 0 where
  pub places : ℕ
  pub packets : ℕ
  pub volume : ℕ
  pub deduction : ℕ
  pub held : List Place

pub record SharedSound (x : SharedModel) : Type 0 where
  pub some : 1 ≤ x.places
  pub few : x.packets ≤ most_packets
  pub long : length x.held ≡ x.places
  pub tidily : tidy x.held ≡ true
  pub sum : x.volume ≡ counted x.held + (x.places + 1) * x.deduction

abbrev pub shared_opened : ℕ → SharedModel
shared_opened n = record { places = n; packets = 0; volume = 0; deduction = 0; held = replicate n None }

abbrev pub shared_more : SharedModel → Code → ℕ → SharedModel
shared_more x k w = record {
  places = x.places;
  packets = x.packets + 1;
  volume = x.volume + w;
  deduction = x.deduction + deducted x.held k w;
  held = added x.held k w;
}

abbrev pub shared_meaning : Meaning SharedDeduction
shared_meaning = record {
  Model = SharedModel;
  model = λ c. record { places = array_vec_len c.places; packets = c.tally.packets; volume = c.tally.volume; deduction = c.deduction; held = c.places.items };
  sound = SharedSound;
  places = λ x. x.places;
  step = λ _. 1;
  greatest = λ _. 1;
  packets = λ x. x.packets;
  volume = λ x. x.volume;
  estimate = λ x k. count_of k x.held + x.deduction;
  opened = λ _ n _. shared_opened n;
  flushed = λ x. shared_opened x.places;
  added = shared_more;
  passes = λ x k _. cond (holds k x.held || any_empty x.held) 0 x.places;
}

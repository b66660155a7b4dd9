-- A semi-ordered counter keeps the laws of a frame counter.
use Rattle.std.specs.Prelude.{refl}
use Rattle.std.proofs.Common.{arith}
use Rattle.semi.specs.Adding.{added_lawful}
use Rattle.semi.specs.Estimates.{other_rise, own_rise}
use Rattle.semi.specs.Passes.{passes_few}
use Rattle.semi.specs.Sums.{large_sum}
use Rattle.semi.specs.Semi.{SemiSound, semi_meaning, semi_opened}
use Rattle.flow.proofs.Codes.{same_apart}
use Rattle.flow.proofs.Inside.{adds_inside}
use Rattle.flow.specs.Meanings.{Adds, Heavy}

pub semi_adds : Adds semi_meaning
semi_adds x k w sound told =
    let a = adds_inside semi_meaning x k w _ told in
    let l = sound.lawful in (
      record {
        is_sound = record {
          some = sound.some;
          stepping = sound.stepping;
          few = omega (arith, sound.few, a.1);
          lawful = added_lawful x.places x.step x.packets x.volume w x.line k sound.some sound.stepping l;
        };
        places_is = refl;
        step_is = refl;
        greatest_is = refl;
        packets_is = refl;
        volume_is = refl;
        own = own_rise x.places x.step x.line k w l.distinct;
        others = λ j apart. other_rise x.places x.step x.packets x.volume w x.line j k sound.some sound.stepping l (same_apart j k apart);
      },
      passes_few x.places x.step w x.line k l.few,
    )

pub semi_heavy : Heavy semi_meaning
semi_heavy x sound m codes q d e =
    large_sum x.places x.step x.packets x.volume m x.line codes sound.some sound.stepping sound.lawful q d e

-- a new counter is sound
pub new_sound : SemiSound (semi_opened 1 1)
new_sound = record {
  some = omega arith;
  stepping = omega arith;
  few = omega arith;
  lawful = record { few = omega arith; rising = tt; distinct = tt; small = tt; sum = omega arith };
}

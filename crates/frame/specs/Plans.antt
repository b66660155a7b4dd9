-- Plans and their refusals. Assumes nothing.
--   block_of      b = W / k, the packets of a block
--   unit_of       T = M b, the unit of marks
--   least_level   3 T, the least level of a list: a flow of so much is sure to have a mark
--   error_of      4 T: an estimate is above the true volume by less
--   wrapped       the offset of the next packet, with n packets in the present frame: 0 where it is full
--   next_offset   the offset after i: 0 behind the last of a frame
--   judged        what is wrong with the numbers of a plan, in the order of the checks; g is the counter's greatest step
--   level_judged  what is wrong with the level of a list under a plan
--   Fair          what the numbers of an accepted plan keep
use Rattle.std.specs.Prelude.{◌≡◌, ℕ, ◌+◌, ◌-◌, ◌*◌, ◌/◌, ◌%◌, ◌<◌, ◌≤◌, cond, not, ◌||◌, ◌==◌, nat_le, nat_lt}
use Rattle.flow.specs.Answers.{Answer, answered, refused}
use Rattle.flow.specs.Limits.{most_places, most_weight, most_window, outside}
use Rattle.frame.specs.declared.plan.Plan.{Plan}

unfoldable pub block_of : Plan → ℕ
block_of p = p.window / p.blocks

unfoldable pub unit_of : Plan → ℕ
unit_of p = p.most * block_of p

abbrev pub least_level : Plan → ℕ
least_level p = 3 * unit_of p

abbrev pub error_of : Plan → ℕ
error_of p = 4 * unit_of p

abbrev pub wrapped : Plan → ℕ → ℕ
wrapped p n = cond (nat_lt n p.window) n 0

abbrev pub next_offset : Plan → ℕ → ℕ
next_offset p i = wrapped p (i + 1)

abbrev pub judged : ℕ → Plan → Answer (Unit {0})
judged g p =
    cond (outside 1 most_places p.places) (refused 1)
    (cond (outside 1 g p.step) (refused 2)
    (cond (outside 1 most_weight p.most) (refused 5)
    (cond (outside 1 most_window p.window) (refused 6)
    (cond (p.blocks == 0 || not (p.window % p.blocks == 0)) (refused 7)
    (cond (nat_le (p.places * p.most) (p.blocks * (p.most + (p.step - 1)))) (refused 8)
    (answered tt))))))

abbrev pub level_judged : Plan → ℕ → Answer (Unit {0})
level_judged p level = cond (nat_lt level (least_level p)) (refused 11) (answered tt)

pub record Fair (p : Plan) : Type 0 where
  pub stands : 1 ≤ p.places
  pub few : p.places ≤ most_places
  pub weigh : 1 ≤ p.most
  pub light : p.most ≤ most_weight
  pub wide : 1 ≤ p.window
  pub narrow : p.window ≤ most_window
  pub some : 1 ≤ block_of p
  pub divides : p.blocks * block_of p ≡ p.window
  pub budget : p.blocks * (p.most + (p.step - 1)) < p.places * p.most

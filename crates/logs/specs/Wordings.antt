-- What is printed of calls and replies, in words. Assumes nothing.
--   plan_text      the numbers of a plan
--   asked_text     a call
--   reply_text     what a meter replies to a call; of a list how many flows it has
use Rattle.std.specs.Prelude.{ℕ, List, ◌++◌, codes, vec_len}
use Rattle.std.specs.Fmt.{decimal}
use Rattle.frame.specs.declared.plan.Plan.{Plan}
use Rattle.meter.specs.declared.day.Call.{Call}
use Rattle.meter.specs.declared.day.Call.TheVariants as call
use Rattle.meter.specs.declared.day.Reply.{Reply}
use Rattle.meter.specs.declared.day.Reply.TheVariants as reply

abbrev pub plan_text : Plan → List ℕ
plan_text p = codes "Plan of places " ++ decimal p.places ++ codes ", step " ++ decimal p.step ++ codes ", greatest weight " ++ decimal p.most
    ++ codes ", window " ++ decimal p.window ++ codes ", blocks " ++ decimal p.blocks

abbrev pub asked_text : {K : Type 0} → (K → List ℕ) → Call K → List ℕ
asked_text text_of (call.Plan p) = plan_text p
asked_text text_of (call.Packet k w) = codes "Packet " ++ text_of k ++ codes ", weight " ++ decimal w
asked_text text_of (call.Estimate k) = codes "Estimate of " ++ text_of k
asked_text text_of (call.List level areas) = codes "List at level " ++ decimal level
asked_text text_of call.Restart = codes "Restart"

abbrev pub reply_text : Reply → List ℕ
reply_text reply.Planned = codes "accepted"
reply_text (reply.Took x) = codes "passes " ++ decimal x
reply_text (reply.Estimated e) = decimal e
reply_text (reply.Listed v) = codes "flows " ++ decimal (vec_len v)
reply_text reply.Restarted = codes "done"

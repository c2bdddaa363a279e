-- What a rule makes of a plan, or why it makes nothing.
use Rattle.std.specs.Prelude.{◌≡◌, ◌<◌, Option, Some, None, Result, Ok, Err}
use Rattle.pipes_plan.specs.declared.plan.Plan.{Plan}
use Rattle.pipes_plan.specs.Sizes.{longest_list}
use Rattle.pipes_rewrite.specs.declared.fault.RewriteFault.{RewriteFault}
use Rattle.pipes_rewrite.specs.declared.fault.RewriteFault.TheVariants.{TooLong, Memory}

-- a plan with a list of more than 32 items
abbrev pub IsTooLong : Option Plan → Type 0
IsTooLong (Some plan) = 32 < longest_list plan
IsTooLong None = ⊥

-- this plan; where it has a list of more than 32 items, it can't be made
abbrev pub MakesPlan : Result Plan RewriteFault → Plan → Type 0
MakesPlan (Ok made) plan = made ≡ plan
MakesPlan (Err TooLong) plan = 32 < longest_list plan
MakesPlan (Err Memory) plan = Unit {0}

-- this form; where it has a list that is too long for a plan, it can't be made
abbrev pub Makes : Result (Option Plan) RewriteFault → Option Plan → Type 0
Makes (Ok made) form = made ≡ form
Makes (Err TooLong) form = IsTooLong form
Makes (Err Memory) form = Unit {0}

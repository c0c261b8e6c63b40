-- Services whose sides agree, and what their calls deliver.
use Rattle.std.specs.Prelude.{◌≡◌, Ok}
use Rattle.machine.specs.Machine.{Contents}
use Rattle.call.specs.Calls.{Standing}
use Rattle.call.specs.Standing.{SidesAlike, Provided, Delivered}
use Rattle.call.specs.declared.ran.Ran.{Ran}
use Rattle.service.specs.Services.{ServiceState, Start, Finish, SameService, CameOutByTheLine}

-- the piles of both sides agree, purpose by purpose
abbrev pub SidesAgree : ServiceState → Type 0
SidesAgree s = SidesAlike s.sides

-- what a call gives back agrees where what it was given did
abbrev pub CallsKeepSidesAgreeing : Type 0
CallsKeepSidesAgreeing = (s : Start) (f : Finish) → CameOutByTheLine s f → SidesAgree s.service → SidesAgree f.service

-- the allocations of a call as they stood when they were coded
abbrev pub standing_at : Start → Finish → Standing
standing_at s f = record {
  sides = f.service.sides;
  kept = s.service.kept;
  body = s.body;
  world = s.world;
  budget = s.budget;
}

-- whatever came to a service with the profiles and the kept set of this one: a call of it that is not refused delivers,
-- where the stack is deep enough and the budget reaches
abbrev pub EveryCallDelivers : ServiceState → Type 0
EveryCallDelivers t = (s : Start) (f : Finish) → SameService t s.service → CameOutByTheLine s f →
    (r : Ran) → f.answer ≡ Ok r → Provided (standing_at s f) r →
    (p q : Contents) × Delivered (standing_at s f) f.world r p q

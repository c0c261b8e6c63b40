-- The worked cases come out.
use Rattle.std.proofs.Common.{◌≡◌, ℕ, cond, List, Some, None, Option, refl, ap, ◌∙◌}
use Rattle.values.specs.declared.requests.Request.{Request}
use Rattle.values.specs.declared.sizes.Size.TheVariants.{Eight}
use Rattle.values.specs.declared.value_type.ValueType.{ValueType}
use Rattle.place.specs.declared.pieces.Place.{Place}
use Rattle.stage.proofs.Runs.{along}
use Rattle.stage.specs.Books.{Book, said, used}
use Rattle.allocation.proofs.Numbers.{that_size}
use Rattle.allocation.specs.Rules.{request_in, reaching_with, answer_for, place_answer}
use Rattle.allocation.specs.States.{opened}
use Rattle.blocks.specs.Blocks.{up_move}
use Rattle.worked.specs.Cases.{WorkedCases, own, eight, up_after, fault}
use Rattle.worked.specs.Piles.{shared}
use Rattle.worked.proofs.EmptyCall.{empty_call_ends}

-- what up 8 answers to u8 wherever so many bytes are used
abbrev AnswersAt : ℕ → Option Place → Book → Type 0
AnswersAt n p b = used b ≡ n → said b eight ≡ p

at_reach : (n : ℕ) (p : Option Place) → (up_move Eight n eight).answer ≡ p → (rs : List Request) → AnswersAt n p (up_after rs)
at_reach n p e = along (λ k. record { reach = k; answer = λ r. (up_move Eight k r).answer }) (λ k r. (up_move Eight k r).cursor) (λ k. Unit {0}) (λ k r h. h) (AnswersAt n p) (λ k _ f. ap (λ m. (up_move Eight m eight).answer) f ∙ e) 0 tt

every_type_23 : (t : ValueType) → place_answer (opened shared) (own t.kind t.width) ≡ fault 23 0
every_type_23 t =
    let r : Request = record { kind = t.kind; width = t.width; alignment = t.width } in
    ap (λ o. answer_for (opened shared) (reaching_with 0 shared.questions.sound (request_in t.kind o o))) (that_size t.width)
    ∙ ap (λ b. answer_for (opened shared) (reaching_with 0 shared.questions.sound (cond b (Some r) None))) t.one_of_the_eleven

pub worked_cases : WorkedCases
worked_cases = record {
  wide_pile_places_u1_s8_u2 = (refl, refl);
  wide_pile_places_f8_f8_u1_s8 = (refl, refl);
  shut_bits_give_no_register_after_a_refusal = (refl, refl);
  open_bits_give_their_last_register_after_a_refusal = (refl, refl);
  count_refuses_u8_with_24_and_places_u4 = (refl, refl);
  u8_is_granted_at_reach_4088 = at_reach 4088 _ refl;
  u8_is_refused_at_reach_4089 = at_reach 4089 None refl;
  u8_511_times_reaches_4088 = refl;
  u1_after_them_reaches_4089 = refl;
  a_register_in_two_banks_gets_every_type_23 = every_type_23;
  an_empty_call_ends_after_7_steps = empty_call_ends;
}

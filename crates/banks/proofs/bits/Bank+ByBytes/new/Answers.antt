use Rattle.banks.proofs.Listed.{accepted, out_of_range, if_distinct}
use Rattle.banks.proofs.Spans.{gives_by_bytes}
use Rattle.banks.proofs.bits.Bank+ByBytes.new.Goals as goal

pub returns-clause-accepts_exactly_the_register_lists : goal.returns-clause-accepts_exactly_the_register_lists
returns-clause-accepts_exactly_the_register_lists c = accepted _ _ c.of_list.ensures.refused_by_count_then_by_register

pub returns-clause-wrong_register_is_out_of_range : goal.returns-clause-wrong_register_is_out_of_range
returns-clause-wrong_register_is_out_of_range c = out_of_range _ _ c.of_list.ensures.refused_by_count_then_by_register

pub returns-clause-gives_by_bytes : goal.returns-clause-gives_by_bytes
returns-clause-gives_by_bytes c =
    if_distinct c.args.registers.now _ _ _ c.of_list.ensures.refused_by_count_then_by_register c.of_list.ensures.starts_with_the_list (λ s d h. gives_by_bytes c.args.registers.now _ d _ h)

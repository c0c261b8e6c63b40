use Rattle.std.proofs.Common.{Err, refl, ap}
use Rattle.service.proofs.Came.{came_of_a_fault, came_of_a_signature}
use Rattle.service.proofs.Twins.{equal_services_answer_alike}
use Rattle.service.proofs.services.Service.call.Goals as goal

pub returns-in-Ok : goal.returns-in-Ok
returns-in-Ok g c =
    let read = c.in-Ok.ensures in
    record { comes_out_by_the_line = came_of_a_signature _ _ c.in-Ok.signature read.read_is_what_writes_the_line.0 read.read_is_what_writes_the_line.1 read.refused_exactly_with_the_fault_of_the_line read.a_line_is_written_by_one_proper_signature c.call_signature.ensures.nothing_goes_astray; equal_services_answer_alike = equal_services_answer_alike }

pub returns-in-Err : goal.returns-in-Err
returns-in-Err g c =
    let read = c.in-Err.ensures in
    record { comes_out_by_the_line = came_of_a_fault _ _ c.in-Err.fault (ap Err c.from.ensures) refl refl read.refused_exactly_with_the_fault_of_the_line read.faultless_lines_are_those_of_proper_signatures; equal_services_answer_alike = equal_services_answer_alike }

use Rattle.std.proofs.Common.{◌≢◌, Contains, AllPairs, sym, subst}
use Rattle.values.proofs.AllTypes.{same_type, same_cons, among, none_twice}
use Rattle.values.proofs.value_type.ValueType.all.Goals as goal

pub returns-clause-the_eleven_in_their_order : goal.returns-clause-the_eleven_in_their_order
returns-clause-the_eleven_in_their_order c = search (same_cons, same_type) depth 40

pub returns-clause-each_type_is_among_them : goal.returns-clause-each_type_is_among_them
returns-clause-each_type_is_among_them c = subst (λ xs. (t : _) → Contains xs t) (sym (returns-clause-the_eleven_in_their_order c)) among

pub returns-clause-no_type_is_among_them_twice : goal.returns-clause-no_type_is_among_them_twice
returns-clause-no_type_is_among_them_twice c = subst (AllPairs (λ a b. a ≢ b)) (sym (returns-clause-the_eleven_in_their_order c)) none_twice

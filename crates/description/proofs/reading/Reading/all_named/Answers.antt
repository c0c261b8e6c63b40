use Rattle.std.proofs.Common.{◌+◌, sym, ◌∙◌, arith}
use Rattle.description.proofs.Naming.{used_if, unused_if, mark_of}
use Rattle.description.proofs.reading.Reading.all_named.Goals as goal

pub returns-then-not-self-index : goal.returns-then-not-self-index
returns-then-not-self-index c =
    record {
      whether_each_was_named = λ names h.
          sym (unused_if _ names c.loop-index.index (omega (arith, c.loop-index-test.true, c.len-index-end.ensures.value))
          (sym (h (c.loop-index.index + 1) (omega (arith, c.loop-index-test.true, c.len-index-end.ensures.fits))) ∙ c.if-not-self-index.true));
    }

pub returns : goal.returns
returns c =
    record { whether_each_was_named = λ names h. sym (used_if _ names (λ k l. c.loop-index.invariant names h k (omega (arith, l, c.len-index-end.ensures.value, c.loop-index-test.false)))) }

pub loop-index-preserved : goal.loop-index-preserved
loop-index-preserved c = λ names h.
    mark_of names c.loop-index.index (c.loop-index.invariant names h) (sym (h (c.loop-index.index + 1) (omega (arith, c.loop-index-test.true, c.len-index-end.ensures.fits))) ∙ c.if-not-self-index.false)

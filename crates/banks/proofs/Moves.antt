-- What bits does with a request.
use Rattle.std.proofs.Common.{◌≡◌, ℕ, List, sym, ap, ◌∙◌}
use Rattle.values.specs.Requests.{raised}
use Rattle.values.specs.Sizes.{bytes, round_up}
use Rattle.values.specs.declared.requests.Request.{Request}
use Rattle.values.specs.declared.sizes.Size.{Size}
use Rattle.values.specs.declared.sizes.Size.TheVariants.{Four}
use Rattle.stage.specs.Cursors.{Move}
use Rattle.banks.specs.Banks.{bits_move, bits_start}

-- what bits does with a request, by the start and the width that the code has found
pub bits_move_lem : (xs : List ℕ) (n start : ℕ) (r q : Request) (w : Size) (m : Move) → q ≡ raised Four r → start ≡ round_up (bytes q.alignment) n → r.width ≡ w → bits_move xs n start w ≡ m → bits_move xs n (bits_start n r) r.width ≡ m
bits_move_lem xs n start r q w m e f g h =
    let at : start ≡ bits_start n r = f ∙ ap (λ (x : Request). round_up (bytes x.alignment) n) e in
    ap (λ (c : ℕ). bits_move xs n c r.width) (sym at) ∙ (ap (bits_move xs n start) g ∙ h)

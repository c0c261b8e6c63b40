-- What instructions and outcomes print.
use Rattle.std.specs.Prelude.{ℕ, Bool, true, false, List, ◌++◌, codes, decimal}
use Rattle.std.specs.Fmt.{signed_decimal}
use Rattle.machine.specs.declared.Instruction.{Instruction}
use Rattle.machine.specs.declared.Instruction.TheVariants.{Set, Mov, Add, Addi, Sign, Load, Store, Call, Ret, Halt}
use Rattle.machine.specs.declared.Outcome.{Outcome}
use Rattle.machine.specs.declared.Outcome.TheVariants.{Ended, Stuck, Spent}
use Rattle.machine.specs.Machine.{bytes_of}

-- a register behind a word: r and its number
abbrev pub register_text : ℕ → List ℕ
register_text r = codes " r" ++ decimal r

-- how LOAD fills the bits above the bytes that it reads
abbrev pub filling_text : Bool → List ℕ
filling_text true = codes " sign"
filling_text false = codes " zero"

-- an instruction: its name, its registers and numbers, and the bytes of its width
abbrev pub instruction_text : Instruction → List ℕ
instruction_text (Set d n) = codes "SET" ++ register_text d ++ codes " " ++ decimal n
instruction_text (Mov d s) = codes "MOV" ++ register_text d ++ register_text s
instruction_text (Add d s t) = codes "ADD" ++ register_text d ++ register_text s ++ register_text t
instruction_text (Addi d s i) = codes "ADDI" ++ register_text d ++ register_text s ++ codes " " ++ signed_decimal i
instruction_text (Sign d s) = codes "SIGN" ++ register_text d ++ register_text s
instruction_text (Load d b i w s) = codes "LOAD" ++ register_text d ++ register_text b ++ codes " " ++ signed_decimal i ++ codes " " ++ decimal (bytes_of w) ++ filling_text s
instruction_text (Store s b i w) = codes "STORE" ++ register_text s ++ register_text b ++ codes " " ++ signed_decimal i ++ codes " " ++ decimal (bytes_of w)
instruction_text Call = codes "CALL"
instruction_text Ret = codes "RET"
instruction_text Halt = codes "HALT"

abbrev pub outcome_text : Outcome → List ℕ
outcome_text Ended = codes "ended"
outcome_text Stuck = codes "stuck"
outcome_text Spent = codes "spent"

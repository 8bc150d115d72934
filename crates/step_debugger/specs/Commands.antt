-- Which lines are which command.
use Rattle.std.specs.Prelude.{ℕ, ◌%◌, ◌==◌, nat_le, nat_lt, true, false, ◌&&◌, List, [], length, take, drop, codes, Option, Some, None}
use Rattle.std.specs.Str.{bytes_eq}
use Rattle.step_debugger.specs.declared.command.DebugCommand.{DebugCommand}
use Rattle.step_debugger.specs.declared.command.DebugCommand.TheVariants.{Empty, Hart, Step, Go, Back, ReverseGo, Break, Unbreak, Registers, Word, Where, Quit, Other}
use Rattle.step_debugger.specs.Numbers.{number_of}

-- what comes after a word at the front of a line
abbrev pub behind : List ℕ → List ℕ → Option (List ℕ)
behind word line = elim (bytes_eq (take (length word) line) word) [ true ↦ Some (drop (length word) line) | false ↦ None ]

-- a decimal number has one to seven digits
abbrev pub decimal_in : List ℕ → Option ℕ
decimal_in text = number_of 10 7 text

-- an address has one to eight hexadecimal digits; `0x` may stand before them
abbrev pub address_in : List ℕ → Option ℕ
address_in text = elim (behind (codes "0x") text) [ None ↦ number_of 16 8 text | Some digits ↦ number_of 16 8 digits ]

-- ---- commands with a number

-- `hart` with a number
abbrev pub hart_of : Option ℕ → DebugCommand
hart_of None = Other
hart_of (Some n) = Hart n

-- one to a million steps
abbrev pub step_of : Option ℕ → DebugCommand
step_of None = Other
step_of (Some k) = elim (nat_lt 0 k && nat_le k 1000000) [ true ↦ Step k | false ↦ Other ]

-- one to a million steps back
abbrev pub back_of : Option ℕ → DebugCommand
back_of None = Other
back_of (Some k) = elim (nat_lt 0 k && nat_le k 1000000) [ true ↦ Back k | false ↦ Other ]

-- `break` with an address
abbrev pub break_of : Option ℕ → DebugCommand
break_of None = Other
break_of (Some a) = Break a

-- `unbreak` with an address
abbrev pub unbreak_of : Option ℕ → DebugCommand
unbreak_of None = Other
unbreak_of (Some a) = Unbreak a

-- the address of a word is a multiple of 4
abbrev pub word_of : Option ℕ → DebugCommand
word_of None = Other
word_of (Some a) = elim (a % 4 == 0) [ true ↦ Word a | false ↦ Other ]

-- a command's word, one space, and its number
abbrev pub numbered : List ℕ → DebugCommand
numbered line = elim (behind (codes "hart ") line) [
  | Some text ↦ hart_of (decimal_in text)
  | None ↦ elim (behind (codes "step ") line) [
    | Some text ↦ step_of (decimal_in text)
    | None ↦ elim (behind (codes "break ") line) [
      | Some text ↦ break_of (address_in text)
      | None ↦ elim (behind (codes "unbreak ") line) [
        | Some text ↦ unbreak_of (address_in text)
        | None ↦ elim (behind (codes "word ") line) [
          | Some text ↦ word_of (address_in text)
          | None ↦ elim (behind (codes "back ") line) [ Some text ↦ back_of (decimal_in text) | None ↦ Other ]
        ]
      ]
    ]
  ]
]

-- ---- all commands

-- the command that a line is; the line is given without its LF
abbrev pub command_of : List ℕ → DebugCommand
command_of line = elim (bytes_eq line []) [
  | true ↦ Empty
  | false ↦ elim (bytes_eq line (codes "step")) [
    | true ↦ Step 1
    | false ↦ elim (bytes_eq line (codes "go")) [
      | true ↦ Go
      | false ↦ elim (bytes_eq line (codes "regs")) [
        | true ↦ Registers
        | false ↦ elim (bytes_eq line (codes "where")) [
          | true ↦ Where
          | false ↦ elim (bytes_eq line (codes "quit")) [
            | true ↦ Quit
            | false ↦ elim (bytes_eq line (codes "back")) [
              | true ↦ Back 1
              | false ↦ elim (bytes_eq line (codes "rgo")) [ true ↦ ReverseGo | false ↦ numbered line ]
            ]
          ]
        ]
      ]
    ]
  ]
]

-- Small examples.
use Rattle.std.specs.Prelude.{ℕ, ◌-◌, ◌^◌, List, [], ◌∷◌, ◌++◌, codes, map, replicate, Option, Some, Ok, Err}
use Rattle.log_record.specs.declared.record.Record.TheVariants.{Header}
use Rattle.step_debugger.specs.Common.{Stuck, Joining, fresh, at_start}
use Rattle.joint_replay.specs.Examples.{code, end, crossed, relay}
use Rattle.step_debugger.specs.declared.error.DebugError.{DebugError}
use Rattle.step_debugger.specs.declared.error.DebugError.TheVariants.{Joint}
use Rattle.step_debugger.specs.declared.command.DebugCommand.{DebugCommand}
use Rattle.step_debugger.specs.declared.command.DebugCommand.TheVariants.{Empty, Hart, Step, Go, Back, ReverseGo, Break, Unbreak, Registers, Word, Where, Quit}
use Rattle.step_debugger.specs.Commands.{command_of}
use Rattle.step_debugger.specs.Lines.{Input, input_of, input_from}
use Rattle.step_debugger.specs.Transcript.{Told, transcript, InTurn}

-- what lines are
abbrev pub commands_of : List (List ℕ) → List DebugCommand
commands_of lines = map command_of lines

-- each command
abbrev pub command_lines : List (List ℕ)
command_lines = codes "hart 1" ∷ codes "step" ∷ codes "step 20" ∷ codes "step 1000000" ∷ codes "step 0000001" ∷ codes "go" ∷ codes "break 1005c"
    ∷ codes "break 0x0001005C" ∷ codes "unbreak 1" ∷ codes "regs" ∷ codes "word FFFFFFFC" ∷ codes "where" ∷ codes "quit" ∷ [] ∷ codes "back" ∷ codes "back 1000000" ∷ codes "back 0000020" ∷ codes "rgo" ∷ []

-- what they are
abbrev pub their_commands : List DebugCommand
their_commands = Hart 1 ∷ Step 1 ∷ Step 20 ∷ Step 1000000 ∷ Step 1 ∷ Go ∷ Break 0x1005c
    ∷ Break 0x1005c ∷ Unbreak 1 ∷ Registers ∷ Word 0xfffffffc ∷ Where ∷ Quit ∷ Empty ∷ Back 1 ∷ Back 1000000 ∷ Back 20 ∷ ReverseGo ∷ []

-- lines that are no command. Numbers are too great, too long, negative, signed or missing. Addresses have nine digits, `0X`,
-- no digit or another sign. Words aren't parted by one space, are in another case, or are followed by a CR or a tab
abbrev pub other_lines : List (List ℕ)
other_lines = codes "step 0" ∷ codes "step 1000001" ∷ codes "step 00000001" ∷ codes "step -1" ∷ codes "step +1" ∷ codes "step " ∷ codes "step  1" ∷ codes "step 1 "
    ∷ codes "step a" ∷ codes "back 0" ∷ codes "back 1000001" ∷ codes "back  1" ∷ codes "back -1" ∷ codes "Back" ∷ codes "rgo 1" ∷ codes "rgo " ∷ codes "hart" ∷ codes "hart 12345678" ∷ codes "hart -0" ∷ codes "break" ∷ codes "break 123456789" ∷ codes "break 0x123456789"
    ∷ codes "break 0X10054" ∷ codes "break 0x" ∷ codes "break 1g" ∷ codes "unbreak -4" ∷ codes "word 20001" ∷ codes "word 0x20002" ∷ codes "Go" ∷ codes " go" ∷ codes "go "
    ∷ (codes "go" ++ 13 ∷ []) ∷ (codes "step" ++ 9 ∷ codes "1") ∷ (0 ∷ []) ∷ codes "?" ∷ []

-- ---- sessions

-- the session of a joint replay by bytes of commands
abbrev pub session : Joining → List ℕ → Told
session j bytes = transcript j (input_of bytes)

-- one hart that leaves with the code 5
abbrev pub leaving : Joining
leaving = fresh (code 1 (0x00500513 ∷ 0x05d00893 ∷ 0x00000073 ∷ [])) 1 (
    Header 0 0 0 0x10054 (0 ∷ 0 ∷ 1048576 ∷ 0 ∷ 0 ∷ 0 ∷ 0 ∷ 0 ∷ 0 ∷ 0 ∷ 0 ∷ 1 ∷ 0 ∷ 0 ∷ 0 ∷ 0 ∷ 0 ∷ 0 ∷ 0 ∷ 0 ∷ 0 ∷ 0 ∷ 0 ∷ 0 ∷ 0 ∷ 0 ∷ 0 ∷ 0 ∷ 0 ∷ 0 ∷ 0 ∷ 0 ∷ [])
    ∷ end 0 3 3 5 ∷ [])

-- the session of that hart up to a breakpoint, and to its end
abbrev pub leaving_told : Told
leaving_told = record {
  text = codes "0 0 00010054 00500513 addi a0,zero,5 | a0=00000005\n"
      ++ codes "break 0001005c\n"
      ++ codes "stop 0 2 0001005c\n"
      ++ codes "00020000 unknown\n"
      ++ codes "0 2 0001005c ready\n"
      ++ codes "done\n";
  result = Ok (tt {0});
}

-- what the definition says of its commands
abbrev pub leaving_session : Told
leaving_session = session leaving (codes "step\nbreak 1005c\ngo\nword 20000\nwhere\ngo\nquit\n")

-- all its steps, and ways back: by two, and from breakpoint to breakpoint
abbrev pub returning_told : Told
returning_told = record {
  text = codes "0 0 00010054 00500513 addi a0,zero,5 | a0=00000005\n"
      ++ codes "0 1 00010058 05d00893 addi a7,zero,93 | a7=0000005d\n"
      ++ codes "0 2 0001005c 00000073 ecall\n"
      ++ codes "at 1\n"
      ++ codes "0 1 00010058 ready\n"
      ++ codes "0 1 00010058 05d00893 addi a7,zero,93 | a7=0000005d\n"
      ++ codes "break 00010054\n"
      ++ codes "stop 0 0 00010054\n"
      ++ codes "start\n";
  result = Ok (tt {0});
}

-- what the definition says of its commands
abbrev pub returning_session : Told
returning_session = session leaving (codes "step 3\nback 2\nwhere\nstep\nbreak 10054\nrgo\nrgo\nquit\n")

-- from the start there is no way back, and a great number leads there
abbrev pub starting_told : Told
starting_told = record {
  text = codes "at 0\n" ++ codes "start\n" ++ codes "0 0 00010054 00500513 addi a0,zero,5 | a0=00000005\n" ++ codes "at 0\n" ++ codes "0 0 00010054 ready\n";
  result = Ok (tt {0});
}

-- what the definition says of such commands
abbrev pub starting_session : Told
starting_session = session leaving (codes "back\nrgo\nstep\nback 1000000\nwhere\nquit\n")

-- breakpoints that are set, and that aren't; a go from a breakpoint continues; an end without `quit`, and without LF
abbrev pub breaking_told : Told
breaking_told = record {
  text = codes "break 0001005c\n" ++ codes "unbreak 0001005c\n" ++ codes "none\n" ++ codes "break 00010054\n" ++ codes "break 00010054\n" ++ codes "unbreak 00010054\n" ++ codes "none\n"
      ++ codes "break 00010054\n" ++ codes "done\n" ++ codes "no state\n" ++ codes "done\n" ++ codes "0 done\n" ++ codes "?\n" ++ codes "hart 0\n";
  result = Ok (tt {0});
}

-- what the definition says of such commands
abbrev pub breaking_session : Told
breaking_session = session leaving (codes "break 1005c\nunbreak 0x1005c\nunbreak 1005c\nbreak 10054\nbreak 10054\nunbreak 10054\nunbreak 10054\nbreak 10054\ngo\nregs\nstep 2\nwhere\n\nhart 1\nhart 0")

-- three harts, of which the middle one is at an ordering point, and two wait
abbrev pub relay_told : Told
relay_told = record {
  text = codes "0 4 00010064 ready\n" ++ codes "1 3 -------- waits 0 4\n" ++ codes "2 4 00010078 waits 1 4\n"
      ++ codes "hart 1\n" ++ codes "waits 0 4\n" ++ codes "no state\n" ++ codes "hart 0\n"
      ++ codes "0 4 00010064 00b42023 sw a1,0(s0) | store 00020000=00000003\n" ++ codes "00020000=00000003\n" ++ codes "hart 1\n"
      ++ codes "pass 1 3\n" ++ codes "1 4 00010070 00b42223 sw a1,4(s0) | store 00020004=00000003\n";
  result = Ok (tt {0});
}

-- what the definition says of its commands
abbrev pub relay_session : Told
relay_session = session relay (codes "where\nhart 1\nstep 5\nregs\nhart 0\nstep\nword 0x20000\nhart 1\nstep 2\nquit\nstep\n")

-- two harts that wait for each other
abbrev pub crossed_told : Told
crossed_told = record {
  text = codes "0 0 00010054 waits 1 0\n" ++ codes "1 0 00010054 waits 0 0\n"
      ++ codes "zero=00000000 ra=00000000 sp=00100000 gp=00000000\n" ++ codes "tp=00000000 t0=00000000 t1=00000000 t2=00000001\n" ++ codes "s0=00020000 s1=00000000 a0=00000000 a1=00000003\n"
      ++ codes "a2=00000000 a3=00000000 a4=00000000 a5=00000000\n" ++ codes "a6=00000000 a7=00000000 s2=00000000 s3=00000000\n" ++ codes "s4=00000000 s5=00000000 s6=00000000 s7=00000000\n"
      ++ codes "s8=00000000 s9=00000000 s10=00000000 s11=00000000\n" ++ codes "t3=00000000 t4=00000000 t5=00000000 t6=00000000\n";
  result = Err (Joint (Stuck ((0, 0) ∷ (1, 0) ∷ [])));
}

-- what the definition says of its commands
abbrev pub crossed_session : Told
crossed_session = session crossed (codes "where\nregs\ngo\nwhere\n")

-- ---- what out has at each read

-- such a session of these commands, where out had the byte `x` before
abbrev pub IsInTurn : List (Option (List ℕ)) → Type 0
IsInTurn given = InTurn (at_start leaving) (Some (codes "x")) [] (codes "quux\n") given

-- out has the answer at the read behind the line, and not before
abbrev pub prompt_reads : List (Option (List ℕ))
prompt_reads = replicate 5 (Some (codes "x")) ++ Some (codes "x?\n") ∷ []

-- the answer is kept to the end
abbrev pub late_reads : List (Option (List ℕ))
late_reads = replicate 6 (Some (codes "x"))

-- it is given one byte too early
abbrev pub early_reads : List (Option (List ℕ))
early_reads = replicate 4 (Some (codes "x")) ++ replicate 2 (Some (codes "x?\n"))

-- ---- the limits of commands

-- why bytes of commands are refused, if they are
abbrev pub refusal_of : List ℕ → Option DebugError
refusal_of bytes = (input_of bytes).refused

-- lines of 256 bytes and of one more, with an LF and without
abbrev pub long_line : ℕ → List ℕ
long_line n = replicate n 0x61

-- what is read of the last byte that all commands may have, and of one more
abbrev pub last_bytes : List ℕ → Input
last_bytes bytes = input_from (2 ^ 24 - 1) [] bytes

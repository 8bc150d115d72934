-- What a joint replay of each of `run_model`'s small recordings prints.
use Rattle.std.specs.Prelude.{ℕ, List, [], ◌∷◌, ◌++◌, codes}
use Rattle.joint_laws.specs.Common.{Recording, an_exit, two_loads_of_a_word, a_skipped_load, a_byte_store, a_line_put_out, a_conditional_store, one_a_time, a_call_at_full_length, a_fault, a_limit, a_line_lost, a_reservation_lost, a_filled_word, a_relay, run_all}
use Rattle.joint_replay.specs.Texts.{joint_text}
use Rattle.joint_laws.specs.Examples.{joint_from}

-- the text of the joint replay of all records of a recording
abbrev pub joined : Recording → List ℕ
joined e = joint_text (run_all (joint_from 0 e))

-- what `an_exit` prints
abbrev pub text_of_an_exit : List ℕ
text_of_an_exit =
    codes "0 0 00010054 00500513 addi a0,zero,5 | a0=00000005\n"
    ++ codes "0 1 00010058 05d00893 addi a7,zero,93 | a7=0000005d\n"
    ++ codes "0 2 0001005c 00000073 ecall\n"
    ++ codes "end 0 0 3 exit 00000005\n"

-- what `two_loads_of_a_word` prints
abbrev pub text_of_two_loads_of_a_word : List ℕ
text_of_two_loads_of_a_word =
    codes "0 0 00010054 00020437 lui s0,0x20 | s0=00020000\n"
    ++ codes "0 1 00010058 00042283 lw t0,0(s0) | t0=00000000 | load 00020000=00000000\n"
    ++ codes "0 2 0001005c 00042303 lw t1,0(s0) | t1=00000000 | load 00020000=00000000\n"
    ++ codes "0 3 00010060 05d00893 addi a7,zero,93 | a7=0000005d\n"
    ++ codes "0 4 00010064 00000073 ecall\n"
    ++ codes "end 0 0 5 exit 00000000\n"
    ++ codes "word 00020000=00000000\n"

-- what `a_skipped_load` prints
abbrev pub text_of_a_skipped_load : List ℕ
text_of_a_skipped_load =
    codes "0 0 00010054 00020437 lui s0,0x20 | s0=00020000\n"
    ++ codes "0 1 00010058 00042283 lw t0,0(s0) | t0=00000000 | load 00020000=00000000\n"
    ++ codes "0 2 0001005c 00042303 lw t1,0(s0) | t1=00000000 | load 00020000=00000000\n"
    ++ codes "0 3 00010060 00442283 lw t0,4(s0) | t0=00000000 | load 00020004=00000000\n"
    ++ codes "0 4 00010064 05d00893 addi a7,zero,93 | a7=0000005d\n"
    ++ codes "0 5 00010068 00000073 ecall\n"
    ++ codes "end 0 0 6 exit 00000000\n"
    ++ codes "word 00020000=00000000\n"
    ++ codes "word 00020004=00000000\n"

-- what `a_byte_store` prints
abbrev pub text_of_a_byte_store : List ℕ
text_of_a_byte_store =
    codes "0 0 00010054 00020437 lui s0,0x20 | s0=00020000\n"
    ++ codes "0 1 00010058 00b40023 sb a1,0(s0) | store 00020000=00000001\n"
    ++ codes "0 2 0001005c 00042283 lw t0,0(s0) | t0=00000001 | load 00020000=00000001\n"
    ++ codes "0 3 00010060 05d00893 addi a7,zero,93 | a7=0000005d\n"
    ++ codes "0 4 00010064 00000073 ecall\n"
    ++ codes "end 0 0 5 exit 00000000\n"
    ++ codes "word 00020000=00000001\n"

-- what `a_line_put_out` prints
abbrev pub text_of_a_line_put_out : List ℕ
text_of_a_line_put_out =
    codes "0 0 00010054 00020437 lui s0,0x20 | s0=00020000\n"
    ++ codes "0 1 00010058 00042283 lw t0,0(s0) | t0=00000000 | load 00020000=00000000\n"
    ++ codes "0 2 0001005c 00442283 lw t0,4(s0) | t0=00000000 | load 00020004=00000000\n"
    ++ codes "0 3 00010060 00042283 lw t0,0(s0) | t0=00000000 | load 00020000=00000000\n"
    ++ codes "0 4 00010064 05d00893 addi a7,zero,93 | a7=0000005d\n"
    ++ codes "0 5 00010068 00000073 ecall\n"
    ++ codes "end 0 0 6 exit 00000000\n"
    ++ codes "word 00020000=00000000\n"
    ++ codes "word 00020004=00000000\n"

-- what `a_conditional_store` prints
abbrev pub text_of_a_conditional_store : List ℕ
text_of_a_conditional_store =
    codes "0 0 00010054 00020437 lui s0,0x20 | s0=00020000\n"
    ++ codes "0 1 00010058 100422af lr.w t0,(s0) | t0=00000000 | load 00020000=00000000\n"
    ++ codes "0 2 0001005c 18b4232f sc.w t1,a1,(s0) | t1=00000000 | store 00020000=00000001\n"
    ++ codes "0 3 00010060 05d00893 addi a7,zero,93 | a7=0000005d\n"
    ++ codes "0 4 00010064 00000073 ecall\n"
    ++ codes "end 0 0 5 exit 00000000\n"
    ++ codes "word 00020000=00000001\n"

-- what `one_a_time` prints
abbrev pub text_of_one_a_time : List ℕ
text_of_one_a_time =
    codes "0 0 00010054 00500513 addi a0,zero,5 | a0=00000005\n"
    ++ codes "end 0 0 1 length 00000000\n"
    ++ codes "0 1 00010058 05d00893 addi a7,zero,93 | a7=0000005d\n"
    ++ codes "end 0 1 2 length 00000000\n"
    ++ codes "0 2 0001005c 00000073 ecall\n"
    ++ codes "end 0 2 3 exit 00000005\n"

-- what `a_call_at_full_length` prints
abbrev pub text_of_a_call_at_full_length : List ℕ
text_of_a_call_at_full_length =
    codes "0 0 00010054 0d600893 addi a7,zero,214 | a7=000000d6\n"
    ++ codes "0 1 00010058 00000513 addi a0,zero,0 | a0=00000000\n"
    ++ codes "0 2 0001005c 00000073 ecall | a0=00011000\n"
    ++ codes "end 0 0 3 call 00011000\n"
    ++ codes "0 3 00010060 05d00893 addi a7,zero,93 | a7=0000005d\n"
    ++ codes "0 4 00010064 00000073 ecall\n"
    ++ codes "end 0 1 5 exit 00011000\n"

-- what `a_fault` prints
abbrev pub text_of_a_fault : List ℕ
text_of_a_fault =
    codes "0 0 00010054 00002283 lw t0,0(zero) | fault LoadOutside 00000000\n"
    ++ codes "end 0 0 0 LoadOutside 00000000\n"

-- what `a_limit` prints
abbrev pub text_of_a_limit : List ℕ
text_of_a_limit =
    codes "0 0 00010054 0000006f jal zero,00010054\n"
    ++ codes "0 1 00010054 0000006f jal zero,00010054\n"
    ++ codes "0 2 00010054 0000006f jal zero,00010054\n"
    ++ codes "0 3 00010054 0000006f jal zero,00010054\n"
    ++ codes "end 0 0 4 length 00000000\n"
    ++ codes "0 4 00010054 0000006f jal zero,00010054\n"
    ++ codes "0 5 00010054 0000006f jal zero,00010054\n"
    ++ codes "0 6 00010054 0000006f jal zero,00010054\n"
    ++ codes "0 7 00010054 0000006f jal zero,00010054\n"
    ++ codes "end 0 1 8 length 00000000\n"
    ++ codes "0 8 00010054 0000006f jal zero,00010054\n"
    ++ codes "0 9 00010054 0000006f jal zero,00010054\n"
    ++ codes "end 0 2 10 limit 00000000\n"

-- what `a_line_lost` prints
abbrev pub text_of_a_line_lost : List ℕ
text_of_a_line_lost =
    codes "0 0 00010054 00020437 lui s0,0x20 | s0=00020000\n"
    ++ codes "0 1 00010058 00051a63 bne a0,zero,0001006c\n"
    ++ codes "0 2 0001005c 00042283 lw t0,0(s0) | t0=00000000 | load 00020000=00000000\n"
    ++ codes "0 3 00010060 00042303 lw t1,0(s0) | t1=00000000 | load 00020000=00000000\n"
    ++ codes "0 4 00010064 05d00893 addi a7,zero,93 | a7=0000005d\n"
    ++ codes "0 5 00010068 00000073 ecall\n"
    ++ codes "end 0 0 6 exit 00000000\n"
    ++ codes "1 0 00010054 00020437 lui s0,0x20 | s0=00020000\n"
    ++ codes "1 1 00010058 00051a63 bne a0,zero,0001006c\n"
    ++ codes "1 2 0001006c 00b42223 sw a1,4(s0) | store 00020004=00000002\n"
    ++ codes "1 3 00010070 05d00893 addi a7,zero,93 | a7=0000005d\n"
    ++ codes "1 4 00010074 00000073 ecall\n"
    ++ codes "end 1 0 5 exit 00000001\n"
    ++ codes "word 00020000=00000000\n"
    ++ codes "word 00020004=00000002\n"

-- what `a_reservation_lost` prints
abbrev pub text_of_a_reservation_lost : List ℕ
text_of_a_reservation_lost =
    codes "0 0 00010054 00020437 lui s0,0x20 | s0=00020000\n"
    ++ codes "0 1 00010058 00051a63 bne a0,zero,0001006c\n"
    ++ codes "0 2 0001005c 100422af lr.w t0,(s0) | t0=00000000 | load 00020000=00000000\n"
    ++ codes "0 3 00010060 18b4232f sc.w t1,a1,(s0) | t1=00000001\n"
    ++ codes "0 4 00010064 05d00893 addi a7,zero,93 | a7=0000005d\n"
    ++ codes "0 5 00010068 00000073 ecall\n"
    ++ codes "end 0 0 6 exit 00000000\n"
    ++ codes "1 0 00010054 00020437 lui s0,0x20 | s0=00020000\n"
    ++ codes "1 1 00010058 00051a63 bne a0,zero,0001006c\n"
    ++ codes "1 2 0001006c 00b42023 sw a1,0(s0) | store 00020000=00000002\n"
    ++ codes "1 3 00010070 05d00893 addi a7,zero,93 | a7=0000005d\n"
    ++ codes "1 4 00010074 00000073 ecall\n"
    ++ codes "end 1 0 5 exit 00000001\n"
    ++ codes "word 00020000=00000002\n"

-- what `a_filled_word` prints
abbrev pub text_of_a_filled_word : List ℕ
text_of_a_filled_word =
    codes "0 0 00010054 00020437 lui s0,0x20 | s0=00020000\n"
    ++ codes "0 1 00010058 00051a63 bne a0,zero,0001006c\n"
    ++ codes "0 2 0001005c 00042283 lw t0,0(s0) | t0=00000000 | load 00020000=00000000\n"
    ++ codes "1 0 00010054 00020437 lui s0,0x20 | s0=00020000\n"
    ++ codes "1 1 00010058 00051a63 bne a0,zero,0001006c\n"
    ++ codes "1 2 0001006c 00000513 addi a0,zero,0 | a0=00000000\n"
    ++ codes "1 3 00010070 00040593 addi a1,s0,0 | a1=00020000\n"
    ++ codes "1 4 00010074 00400613 addi a2,zero,4 | a2=00000004\n"
    ++ codes "1 5 00010078 03f00893 addi a7,zero,63 | a7=0000003f\n"
    ++ codes "1 6 0001007c 00000073 ecall | a0=00000004\n"
    ++ codes "0 3 00010060 00042303 lw t1,0(s0) | t1=7a797877 | load 00020000=7a797877\n"
    ++ codes "0 4 00010064 05d00893 addi a7,zero,93 | a7=0000005d\n"
    ++ codes "0 5 00010068 00000073 ecall\n"
    ++ codes "end 0 0 6 exit 00000000\n"
    ++ codes "end 1 0 7 call 00000004\n"
    ++ codes "1 7 00010080 05d00893 addi a7,zero,93 | a7=0000005d\n"
    ++ codes "1 8 00010084 00000073 ecall\n"
    ++ codes "end 1 1 9 exit 00000004\n"
    ++ codes "word 00020000=7a797877\n"

-- what `a_relay` prints
abbrev pub text_of_a_relay : List ℕ
text_of_a_relay =
    codes "0 0 00010054 00020437 lui s0,0x20 | s0=00020000\n"
    ++ codes "0 1 00010058 00100393 addi t2,zero,1 | t2=00000001\n"
    ++ codes "0 2 0001005c 00750863 beq a0,t2,0001006c\n"
    ++ codes "0 3 00010060 00051c63 bne a0,zero,00010078\n"
    ++ codes "0 4 00010064 00b42023 sw a1,0(s0) | store 00020000=00000003\n"
    ++ codes "0 5 00010068 0180006f jal zero,00010080\n"
    ++ codes "0 6 00010080 05d00893 addi a7,zero,93 | a7=0000005d\n"
    ++ codes "0 7 00010084 00000073 ecall\n"
    ++ codes "end 0 0 8 exit 00000000\n"
    ++ codes "1 0 00010054 00020437 lui s0,0x20 | s0=00020000\n"
    ++ codes "1 1 00010058 00100393 addi t2,zero,1 | t2=00000001\n"
    ++ codes "1 2 0001005c 00750863 beq a0,t2,0001006c\n"
    ++ codes "1 3 0001006c 00042283 lw t0,0(s0) | t0=00000003 | load 00020000=00000003\n"
    ++ codes "1 4 00010070 00b42223 sw a1,4(s0) | store 00020004=00000003\n"
    ++ codes "1 5 00010074 00c0006f jal zero,00010080\n"
    ++ codes "1 6 00010080 05d00893 addi a7,zero,93 | a7=0000005d\n"
    ++ codes "1 7 00010084 00000073 ecall\n"
    ++ codes "end 1 0 8 exit 00000001\n"
    ++ codes "2 0 00010054 00020437 lui s0,0x20 | s0=00020000\n"
    ++ codes "2 1 00010058 00100393 addi t2,zero,1 | t2=00000001\n"
    ++ codes "2 2 0001005c 00750863 beq a0,t2,0001006c\n"
    ++ codes "2 3 00010060 00051c63 bne a0,zero,00010078\n"
    ++ codes "2 4 00010078 00442283 lw t0,4(s0) | t0=00000003 | load 00020004=00000003\n"
    ++ codes "2 5 0001007c 00042303 lw t1,0(s0) | t1=00000003 | load 00020000=00000003\n"
    ++ codes "2 6 00010080 05d00893 addi a7,zero,93 | a7=0000005d\n"
    ++ codes "2 7 00010084 00000073 ecall\n"
    ++ codes "end 2 0 8 exit 00000002\n"
    ++ codes "word 00020000=00000003\n"
    ++ codes "word 00020004=00000003\n"

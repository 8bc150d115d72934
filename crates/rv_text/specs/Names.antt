-- The words that texts are made of.
use Rattle.std.specs.Prelude.{ℕ, Bool, true, false, List, [], ◌∷◌, codes, get_or}
use Rattle.rv_decode.specs.declared.name.Name.{Name}
use Rattle.rv_decode.specs.declared.name.Name.TheVariants.{Lui, Auipc, Jal, Jalr, Beq, Bne, Blt, Bge, Bltu, Bgeu, Lb, Lh, Lw, Lbu, Lhu, Sb, Sh, Sw, Addi, Slti, Sltiu, Xori, Ori, Andi, Slli, Srli, Srai, Add, Sll, Slt, Sltu, Xor, Srl, Or, And, Sub, Sra, Mul, Mulh, Mulhsu, Mulhu, Div, Divu, Rem, Remu, Fence, Ecall, Ebreak, LrW, ScW, AmoswapW, AmoaddW, AmoxorW, AmoandW, AmoorW, AmominW, AmomaxW, AmominuW, AmomaxuW}

-- the registers x0 to x31 by the names of the RISC-V calling convention
abbrev pub register_names : List (List ℕ)
register_names =
    codes "zero" ∷ codes "ra" ∷ codes "sp" ∷ codes "gp" ∷ codes "tp" ∷ codes "t0" ∷ codes "t1" ∷ codes "t2"
    ∷ codes "s0" ∷ codes "s1" ∷ codes "a0" ∷ codes "a1" ∷ codes "a2" ∷ codes "a3" ∷ codes "a4" ∷ codes "a5" ∷ codes "a6" ∷ codes "a7"
    ∷ codes "s2" ∷ codes "s3" ∷ codes "s4" ∷ codes "s5" ∷ codes "s6" ∷ codes "s7" ∷ codes "s8" ∷ codes "s9" ∷ codes "s10" ∷ codes "s11"
    ∷ codes "t3" ∷ codes "t4" ∷ codes "t5" ∷ codes "t6"
    ∷ []

-- the name of a register
unfoldable pub register_name : ℕ → List ℕ
register_name r = get_or register_names r []

-- the name of an instruction, without aq and rl
unfoldable pub mnemonic : Name → List ℕ
mnemonic Lui = codes "lui"
mnemonic Auipc = codes "auipc"
mnemonic Jal = codes "jal"
mnemonic Jalr = codes "jalr"
mnemonic Beq = codes "beq"
mnemonic Bne = codes "bne"
mnemonic Blt = codes "blt"
mnemonic Bge = codes "bge"
mnemonic Bltu = codes "bltu"
mnemonic Bgeu = codes "bgeu"
mnemonic Lb = codes "lb"
mnemonic Lh = codes "lh"
mnemonic Lw = codes "lw"
mnemonic Lbu = codes "lbu"
mnemonic Lhu = codes "lhu"
mnemonic Sb = codes "sb"
mnemonic Sh = codes "sh"
mnemonic Sw = codes "sw"
mnemonic Addi = codes "addi"
mnemonic Slti = codes "slti"
mnemonic Sltiu = codes "sltiu"
mnemonic Xori = codes "xori"
mnemonic Ori = codes "ori"
mnemonic Andi = codes "andi"
mnemonic Slli = codes "slli"
mnemonic Srli = codes "srli"
mnemonic Srai = codes "srai"
mnemonic Add = codes "add"
mnemonic Sll = codes "sll"
mnemonic Slt = codes "slt"
mnemonic Sltu = codes "sltu"
mnemonic Xor = codes "xor"
mnemonic Srl = codes "srl"
mnemonic Or = codes "or"
mnemonic And = codes "and"
mnemonic Sub = codes "sub"
mnemonic Sra = codes "sra"
mnemonic Mul = codes "mul"
mnemonic Mulh = codes "mulh"
mnemonic Mulhsu = codes "mulhsu"
mnemonic Mulhu = codes "mulhu"
mnemonic Div = codes "div"
mnemonic Divu = codes "divu"
mnemonic Rem = codes "rem"
mnemonic Remu = codes "remu"
mnemonic Fence = codes "fence"
mnemonic Ecall = codes "ecall"
mnemonic Ebreak = codes "ebreak"
mnemonic LrW = codes "lr.w"
mnemonic ScW = codes "sc.w"
mnemonic AmoswapW = codes "amoswap.w"
mnemonic AmoaddW = codes "amoadd.w"
mnemonic AmoxorW = codes "amoxor.w"
mnemonic AmoandW = codes "amoand.w"
mnemonic AmoorW = codes "amoor.w"
mnemonic AmominW = codes "amomin.w"
mnemonic AmomaxW = codes "amomax.w"
mnemonic AmominuW = codes "amominu.w"
mnemonic AmomaxuW = codes "amomaxu.w"

-- what aq and rl add to the name
unfoldable pub ordering : Bool → Bool → List ℕ
ordering false false = []
ordering true false = codes ".aq"
ordering false true = codes ".rl"
ordering true true = codes ".aqrl"

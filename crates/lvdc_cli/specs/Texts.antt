-- The texts that stand in the program. Each line ends with LF.
use Rattle.std.specs.Prelude.{ℕ, List, ◌++◌, codes}

-- how the program is asked
abbrev pub usage_text : List ℕ
usage_text =
    codes "usage: lvdc run [--plain | --through]\n"
    ++ codes "       lvdc asm [--image]\n"
    ++ codes "       lvdc debug\n"
    ++ codes "       lvdc soak NUMBER\n"
    ++ codes "       lvdc save NUMBER\n"
    ++ codes "       lvdc resume\n"
    ++ codes "       lvdc campaign\n"
    ++ codes "       lvdc uplink\n"
    ++ codes "       lvdc macro [--image]\n"

-- what is told where a read failed
abbrev pub read_fault_text : List ℕ
read_fault_text = codes "REFUSED ReadFault\n"

-- what is told where the input is longer than the limit
abbrev pub too_long_text : List ℕ
too_long_text = codes "REFUSED TooLong\n"

-- The text that tells what the program does, its words and its statuses.
use Rattle.std.specs.Prelude.{ℕ, List, ◌++◌, codes}

-- What it tells of itself.
unfoldable pub help_text : List ℕ
help_text =
    codes "prepare repairs an OBJ, PLY or STL mesh, so that it is an oriented manifold, "
    ++ codes "and writes\n"
    ++ codes "it as OBJ. It reads standard input; each change is told on standard error.\n"
    ++ codes "\n"
    ++ codes "  ./prepare [SIZE] < scan.obj > mesh.obj\n"
    ++ codes "\n"
    ++ codes "With SIZE, from 1 to 32767, the longest axis goes from -SIZE to SIZE; without it\n"
    ++ codes "coordinates that fit stay as they are.\n"
    ++ codes "Status 0: all was written. 1: the input has a fault. 2: other words. 3: a "
    ++ codes "read failed.\n"
    ++ codes "4: a write failed. 5: out of memory. docs/commands/prepare.md tells all of it.\n"
    ++ codes "./prepare --version tells which program is run, and whether it is proved.\n"

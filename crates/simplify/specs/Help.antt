-- The text that tells what the program does, its words and its statuses.
use Rattle.std.specs.Prelude.{ℕ, List, ◌++◌, codes}

-- What it tells of itself.
unfoldable pub help_text : List ℕ
help_text =
    codes "simplify makes a stream of an OBJ mesh: all its levels of detail. It reads standard\n"
    ++ codes "input.\n"
    ++ codes "\n"
    ++ codes "  ./simplify [N] [--digits D] [--keep-border] < mesh.obj > mesh.vdpm\n"
    ++ codes "\n"
    ++ codes "N is how many faces the base mesh may have, 0 where none is told; D how "
    ++ codes "many decimals\n"
    ++ codes "coordinates have, 0 to 4; --keep-border keeps the border (boundary) as it is, for\n"
    ++ codes "tiles that have to meet.\n"
    ++ codes "Status 0: all was written. 1: the input has a fault. 2: other words. 3: a "
    ++ codes "read failed.\n"
    ++ codes "4: a write failed. 5: out of memory. docs/commands/simplify.md tells all of it;\n"
    ++ codes "./prepare repairs meshes.\n"
    ++ codes "./simplify --version tells which program is run, and whether it is proved.\n"

-- Why nothing is made of a file, in words.
use Rattle.std.specs.Prelude.{ℕ, List, codes}
use Rattle.obj_read.specs.declared.fault.ObjFault.{ObjFault}
use Rattle.obj_read.specs.declared.fault.ObjFault.TheVariants as line_faults
use Rattle.obj_scan.specs.declared.fault.ScanFault.{ScanFault}
use Rattle.obj_scan.specs.declared.fault.ScanFault.TheVariants as scan_faults
use Rattle.stl_read.specs.declared.fault.StlFault.{StlFault}
use Rattle.stl_read.specs.declared.fault.StlFault.TheVariants as stl_faults
use Rattle.ply_read.specs.declared.fault.PlyFault.{PlyFault}
use Rattle.ply_read.specs.declared.fault.PlyFault.TheVariants as ply_faults
use Rattle.mesh_scan.specs.declared.format.Foreign.{Foreign}
use Rattle.mesh_scan.specs.declared.format.Foreign.TheVariants as foreign
use Rattle.mesh_scan.specs.declared.fault.MeshFault.{MeshFault}
use Rattle.mesh_scan.specs.declared.fault.MeshFault.TheVariants as files
use Rattle.obj_fit.specs.declared.fault.Fault.{Fault}
use Rattle.obj_fit.specs.declared.fault.Fault.TheVariants as faults

-- What is wrong with what is read of a line. Three of these don't come: a coordinate needn't be
-- whole, a face may have more corners, or one twice.
abbrev pub line_reason : ObjFault → List ℕ
line_reason line_faults.LineTooLong = codes "more than 65,536 bytes"
line_reason line_faults.Continuation = codes "continued, but the text ends"
line_reason line_faults.TooFewFields = codes "fewer than three fields"
line_reason line_faults.BadNumber = codes "a field is no number"
line_reason line_faults.NotWhole = codes "a coordinate isn't whole"
line_reason line_faults.OutOfRange = codes "a number is out of range"
line_reason line_faults.BadIndex = codes "there is no such vertex"
line_reason line_faults.NotTriangle = codes "more than three corners"
line_reason line_faults.TooMany = codes "too many vertices, triangles or bytes"
line_reason line_faults.RepeatedCorner = codes "a vertex is named twice"

abbrev pub scan_reason : ScanFault → List ℕ
scan_reason (scan_faults.Line fault) = line_reason fault
scan_reason scan_faults.SixteenBits = codes "16 bits a letter, not UTF-8"
scan_reason scan_faults.LoneReturn = codes "a CR inside the line"
scan_reason scan_faults.GarbledWord = codes "the first word is garbled"

-- What is wrong with an STL file.
abbrev pub stl_reason : StlFault → List ℕ
stl_reason stl_faults.CutOff = codes "the file ends early"
stl_reason stl_faults.MoreBytes = codes "bytes follow the last facet"
stl_reason stl_faults.NotFinite = codes "a coordinate is NaN or infinite"
stl_reason stl_faults.TooLarge = codes "a coordinate is above 10^14"
stl_reason stl_faults.TooManyVertices = codes "more than 1,048,576 vertices"
stl_reason stl_faults.TooManyFaces = codes "more than 1,048,576 triangles"
stl_reason stl_faults.UnexpectedWord = codes "not the line that comes next"
stl_reason stl_faults.BadNumber = codes "a coordinate is no number"

-- What is wrong with a PLY file.
abbrev pub ply_reason : PlyFault → List ℕ
ply_reason ply_faults.NotPly = codes "the first line isn't ply"
ply_reason ply_faults.CutOff = codes "the file ends early"
ply_reason ply_faults.UnexpectedLine = codes "an unknown line in the header"
ply_reason ply_faults.UnknownFormat = codes "an unknown format or version"
ply_reason ply_faults.UnknownType = codes "an unknown type of a property"
ply_reason ply_faults.BadNumber = codes "no number, or no whole one from 0 on"
ply_reason ply_faults.UnexpectedProperty = codes "a property out of place"
ply_reason ply_faults.MissingProperty = codes "x, y, z or vertex_indices is missing"
ply_reason ply_faults.UnexpectedElement = codes "an element twice, or face before vertex"
ply_reason ply_faults.NoVertices = codes "there is no element vertex"
ply_reason ply_faults.TriangleStrips = codes "triangle strips aren't read"
ply_reason ply_faults.TooManyVertices = codes "more than 1,048,576 vertices"
ply_reason ply_faults.TooManyTriangles = codes "more than 1,048,576 triangles"
ply_reason ply_faults.BadIndex = codes "there is no such vertex"
ply_reason ply_faults.NotFinite = codes "a coordinate is NaN or infinite"
ply_reason ply_faults.TooLarge = codes "a coordinate is above 10^14"

-- What a file is that isn't read.
abbrev pub foreign_reason : Foreign → List ℕ
foreign_reason foreign.Gltf = codes "a glTF file, which isn't read"
foreign_reason foreign.Off = codes "an OFF file, which isn't read"
foreign_reason foreign.Fbx = codes "an FBX file, which isn't read"
foreign_reason foreign.ThreeDs = codes "a 3DS file, which isn't read"
foreign_reason foreign.Zip = codes "a ZIP archive: unpack it"
foreign_reason foreign.Gzip = codes "a gzip file: unpack it by gunzip"
foreign_reason foreign.Png = codes "a PNG picture, no mesh"
foreign_reason foreign.Jpeg = codes "a JPEG picture, no mesh"
foreign_reason foreign.Gif = codes "a GIF picture, no mesh"
foreign_reason foreign.Tiff = codes "a TIFF picture, no mesh"
foreign_reason foreign.Pdf = codes "a PDF document, no mesh"
foreign_reason foreign.Json = codes "JSON, perhaps glTF, which isn't read"

abbrev pub file_reason : MeshFault → List ℕ
file_reason (files.Obj e n) = scan_reason e
file_reason (files.Stl e spot) = stl_reason e
file_reason (files.Ply e spot) = ply_reason e
file_reason (files.Foreign kind) = foreign_reason kind
file_reason files.TooLong = codes "more than 1,073,741,824 bytes"

abbrev pub reason_of : Fault → List ℕ
reason_of (faults.File f) = file_reason f
reason_of faults.TooMany = codes "more than 1,048,576 vertices come out"
reason_of faults.NoFaces = codes "no face is left"
